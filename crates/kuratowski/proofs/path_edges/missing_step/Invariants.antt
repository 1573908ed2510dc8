use Rattle.std.proofs.Common.{◌≡◌, ℕ, suc, ◌<◌, true}
use Rattle.kuratowski.specs.Witnesses.{vertex_at}
use Rattle.graphs.specs.Graphs.{has_edge}
use Rattle.kuratowski.proofs.path_edges.missing_step.Given as goal

abbrev pub invariant-loop-i : goal.invariant-loop-i
invariant-loop-i l = (k : ℕ) → suc k < l.i → has_edge l.graph (vertex_at l.path k) (vertex_at l.path (suc k)) ≡ true
