use Rattle.std.proofs.Common.{ℕ, ◌<◌}
use Rattle.kuratowski.specs.Faults.{IsBadBranch}
use Rattle.kuratowski.proofs.branches.bad_branch.Given as goal

abbrev pub invariant-loop-i : goal.invariant-loop-i
invariant-loop-i l = (k : ℕ) → k < l.i → IsBadBranch l.n l.branch k → ⊥
