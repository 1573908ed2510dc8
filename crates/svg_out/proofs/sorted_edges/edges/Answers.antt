use Rattle.std.proofs.Common.{rules, ◌++◌, ℕ, List, sym, ap₂, ◌∙◌, arith}
use Rattle.std.proofs.lemmas.List.{take_all}
use Rattle.map_theory.specs.Maps.{Dart, darts_from}
use Rattle.svg_out.specs.Edges.{edges}
use Rattle.svg_out.proofs.EdgeLemmas.{edges_before-more}
use Rattle.svg_out.proofs.EdgeCounts.{length-edges}
use Rattle.svg_out.proofs.sorted_edges.edges.Goals as goal

pub loop-v-preserved : goal.loop-v-preserved
loop-v-preserved c =
    let row = c.fill_sorted.new.row.items in
    c.loop-k.invariant
    ∙ ap₂ (λ (es : List Dart) (us : List ℕ). es ++ darts_from c.loop-v.v us) c.loop-v.invariant (take_all c.loop-k.k row (omega arith) ∙ c.in_ok-fill_sorted.ensures)
    ∙ sym (edges_before-more c.args.lists.now c.loop-v.v)

pub returns-clause-order : goal.returns-clause-order
unfolding edges
returns-clause-order c = search rules

pub returns-clause-count : goal.returns-clause-count
unfolding edges
returns-clause-count c = search (rules, length-edges)
