use Rattle.std.proofs.Common.{◌≡◌, ◌≤◌, ℕ, List, length}
use Rattle.contour_runs.specs.Runs.{Step}
use Rattle.rect_runs.specs.Numbers.{run_turns}
use Rattle.rect_dual.specs.Turns.{AreTurns}
use Rattle.rect_dual.proofs.draw.box_sides.run_count.Given as goal

abbrev pub invariant-loop-k : goal.invariant-loop-k
invariant-loop-k l = record {
  count : (steps : ℕ → Step) (places : List ℕ) → AreTurns steps (length l.runs) places l.runs → l.count ≡ run_turns steps l.k;
  bound : l.count ≤ l.k;
}
