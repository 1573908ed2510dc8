use Rattle.std.proofs.Common.{length, ap, ◌∙◌, arith}
use Rattle.graph_search.proofs.TableLemmas.{second_unseen, first_kept, second_kept}
use Rattle.graph_search.proofs.search_forests.forest.SearchTables.search.Goals as goal

pub see-requires-2-clause-vertex : goal.see-requires-2-clause-vertex
see-requires-2-clause-vertex c =
    omega (arith, c.requires.adjacency.in_range c.args.s c.args.t c.requires.dart, ap length c.see.ensures.lists, ap length c.begun-search.ensures.lists)

pub see-requires-2-clause-unseen : goal.see-requires-2-clause-unseen
see-requires-2-clause-unseen c = omega (arith, second_unseen _ _ _ _ _ _ c.begun-search.ensures.number c.see.ensures.number (c.requires.adjacency.in_range c.args.s c.args.t c.requires.dart) c.requires.two, ap length c.see.ensures.lists, ap length c.begun-search.ensures.lists)

pub returns-clause-first : goal.returns-clause-first
returns-clause-first c = rw c.into_tables.ensures.number (first_kept _ _ _ _ _ _ _ _ _ c.begun-search.ensures.count c.see.ensures.count c.begun-search.ensures.number c.see.ensures.number c.see-2.ensures.number c.requires.dart.0 (c.requires.adjacency.in_range c.args.s c.args.t c.requires.dart) c.requires.two c.finish.ensures.keeps)

pub returns-clause-second : goal.returns-clause-second
returns-clause-second c = rw c.into_tables.ensures.number (second_kept _ _ _ _ _ _ _ _ _ c.begun-search.ensures.count c.see.ensures.count c.begun-search.ensures.number c.see.ensures.number c.see-2.ensures.number c.requires.dart.0 (c.requires.adjacency.in_range c.args.s c.args.t c.requires.dart) c.requires.two c.finish.ensures.keeps)

pub returns-clause-forest : goal.returns-clause-forest
returns-clause-forest c = rw c.into_tables.ensures.order (rw c.into_tables.ensures.number (rw c.into_tables.ensures.last (rw c.into_tables.ensures.parent (rw (c.see-2.ensures.lists ∙ c.see.ensures.lists ∙ c.begun-search.ensures.lists) at c.finish.ensures.forest))))
