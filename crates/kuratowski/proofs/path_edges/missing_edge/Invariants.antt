use Rattle.std.proofs.Common.{ℕ, ◌<◌}
use Rattle.kuratowski.specs.Faults.{LacksEdge}
use Rattle.kuratowski.proofs.path_edges.missing_edge.Given as goal

abbrev pub invariant-loop-p : goal.invariant-loop-p
invariant-loop-p l = (k i : ℕ) → k < l.p → LacksEdge l.graph l.paths k i → ⊥
