use Rattle.std.proofs.Common.{ℕ, pos, ◌-◌, ◌<◌, ◌≤◌, ◌≤ℤ◌}
use Rattle.drawings.specs.Bars.{number_at}
use Rattle.bar_check.proofs.quick_sweep.low_until.Given as goal

abbrev pub invariant-loop-at : goal.invariant-loop-at
invariant-loop-at l = record {
  low : (x : ℕ) → l.fn.k ≤ x → x < l.at → number_at l.table x ≤ℤ pos l.h;
  few : (most : ℕ) → l.fn.k ≤ most → l.end ≤ most → l.at ≤ most;
}

abbrev pub decreases-loop-at : goal.decreases-loop-at
decreases-loop-at l = l.end - l.at
