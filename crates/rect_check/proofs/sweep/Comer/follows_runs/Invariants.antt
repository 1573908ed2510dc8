use Rattle.std.proofs.Common.{ℕ, ◌≡◌, ◌-◌, ◌≤◌, length, slice_index}
use Rattle.rect_check.specs.Axes.{sides}
use Rattle.rect_check.specs.Loops.{AreKept, AreRuns, AreTaken}
use Rattle.rect_check.proofs.sweep.Comer.follows_runs.Given as goal

abbrev pub invariant-loop-at : goal.invariant-loop-at
invariant-loop-at l = record {
  size : length l.marks ≡ length l.fn.marks;
  kept : AreKept l.fn.marks l.marks;
  runs : length l.until ≡ length l.fn.until;
  ends : (s : ℕ) → slice_index l.until s ≤ length l.until;
  from : l.self.low ≤ l.at;
  within : l.at ≤ length l.until;
  vertex : l.entry ≤ length l.self.axis.map.now.lists;
  taken : (row : ℕ → ℕ) → AreRuns l.last l.fn.until row l.self.low l.self.low → AreTaken l.self.axis.map.now.lists l.marks (sides l.self.axis) l.last l.until row l.self.low l.self.high l.self.v.0 l.at l.entry;
}

abbrev pub decreases-loop-at : goal.decreases-loop-at
decreases-loop-at l = l.self.high - l.at
