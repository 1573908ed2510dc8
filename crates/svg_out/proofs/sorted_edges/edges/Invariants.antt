-- The edges from the vertices before v are there, and those from v to its later neighbours before number k.
use Rattle.std.proofs.Common.{◌≡◌, ◌++◌, take}
use Rattle.map_theory.specs.Maps.{darts_from}
use Rattle.svg_out.proofs.EdgeLemmas.{edges_before}
use Rattle.svg_out.proofs.sorted_edges.edges.Given as goal

abbrev pub invariant-loop-v : goal.invariant-loop-v
invariant-loop-v l = l.edges.items ≡ edges_before l.lists l.v

abbrev pub invariant-loop-k : goal.invariant-loop-k
invariant-loop-k l = l.edges.items ≡ l.initial.edges.items ++ darts_from l.v (take l.k l.row.items)
