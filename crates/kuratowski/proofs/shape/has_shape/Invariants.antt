use Rattle.std.proofs.Common.{ℕ, ◌<◌}
use Rattle.kuratowski.specs.Witnesses.{path_at, pair_at, Joins}
use Rattle.kuratowski.proofs.shape.has_shape.Given as goal

abbrev pub invariant-loop-p : goal.invariant-loop-p
invariant-loop-p l = (k : ℕ) → k < l.p → Joins l.branch (path_at l.paths k) (pair_at l.kind k)
