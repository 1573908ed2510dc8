use Rattle.std.proofs.Common.{◌≡◌, ◌≤◌, ◌+◌, ℕ, length}
use Rattle.contour_runs.specs.Runs.{Step}
use Rattle.rect_runs.specs.Labels.{IsLabelledRun}
use Rattle.order_drawings.specs.Rows.{AreRows}
use Rattle.rect_dual.specs.Turns.{AreTurns}
use Rattle.rect_dual.specs.SidesOfBoxes.{IsSideState}
use Rattle.rect_dual.proofs.RectNumbersRows.{line_count}
use Rattle.rect_dual.proofs.side_lines.side_numbers.Given as goal

abbrev pub invariant-loop-k : goal.invariant-loop-k
invariant-loop-k l = record {
  side : l.made.side ≡ l.side;
  size : l.made.lines.len ≡ length l.turned.rows.now + 2;
  few : l.count ≤ l.k + 2;
  state : (steps : ℕ → Step) → AreRows steps l.turned.rows.now → AreTurns steps (length l.turned.rows.now) l.turned.places.now l.turned.runs.now → IsLabelledRun steps (length l.turned.rows.now)
      → IsSideState l.side steps (length l.turned.rows.now) l.k l.made.lines.items l.made.next.items l.made.links.items l.made.leads.items × (l.count ≡ line_count l.side steps l.k);
}
