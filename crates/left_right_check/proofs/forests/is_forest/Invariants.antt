use Rattle.std.proofs.Common.{ℕ, ◌<◌}
use Rattle.left_right_check.proofs.TieLemmas.{IsPlaced}
use Rattle.left_right_check.proofs.forests.is_forest.Given as goal

abbrev pub invariant-loop-v : goal.invariant-loop-v
invariant-loop-v l = (v : ℕ) → v < l.v → IsPlaced l.graph l.parents l.depths v
