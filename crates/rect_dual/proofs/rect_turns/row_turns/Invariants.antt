use Rattle.std.proofs.Common.{◌≡◌, ◌+◌, ℕ, length}
use Rattle.contour_runs.specs.Runs.{Step}
use Rattle.order_drawings.specs.Rows.{AreRows}
use Rattle.rect_dual.proofs.Turns.{IsTurned}
use Rattle.rect_dual.proofs.rect_turns.row_turns.Given as goal

abbrev pub invariant-loop-k : goal.invariant-loop-k
invariant-loop-k l = record {
  size : length l.runs.items ≡ length l.rows + 2;
  turned : (steps : ℕ → Step) → AreRows steps l.rows → IsTurned steps l.k l.runs.items l.place.items l.run.items;
}
