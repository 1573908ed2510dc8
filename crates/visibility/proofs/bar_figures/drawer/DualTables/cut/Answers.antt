use Rattle.std.proofs.Common.{◌≡◌, ◌+◌, ◌/◌, length, ap, ◌∙◌, arith}
use Rattle.map_theory.specs.Maps.{dart_count}
use Rattle.map_theory.proofs.DartLemmas.{length-darts}
use Rattle.graph_search.proofs.ForestLemmas.{IsAdjacency-simple}
use Rattle.visibility.proofs.ListDrawn.{IsPlane-counted}
use Rattle.visibility.proofs.bar_figures.drawer.DualTables.cut.Goals as goal

pub searched_cut_vertex-requires-clause-adjacency : goal.searched_cut_vertex-requires-clause-adjacency
searched_cut_vertex-requires-clause-adjacency c = IsAdjacency-simple c.args.map.now.lists.now c.facts.ensures.simple

pub returns-in-Some : goal.returns-in-Some
returns-in-Some c =
    let lists = c.args.map.now.lists.now in
    let r = c.facts.ensures in
    let arcs = c.number_faces_into.new.tables.arcs in
    let counted : length lists + length arcs ≡ dart_count lists / 2 + 2 = omega (arith, c.if-len-map.false, c.len.ensures.is, c.len-2.ensures, ap (λ n. n / 2) (r.are_twins.count ∙ length-darts lists)) in
    let plane = IsPlane-counted lists (length arcs) r.simple r.many c.requires.connected c.in_ok-number_faces_into.ensures.numbers.all counted in
    ((c.no_refusal_is_plane.ensures 3 lists (omega (arith, r.many))).1 (r.simple, plane, r.many), c.requires.connected, c.in-Some.ensures)
