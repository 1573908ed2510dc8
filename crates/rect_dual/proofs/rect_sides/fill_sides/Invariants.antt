use Rattle.std.proofs.Common.{◌≡◌, ◌<◌, ◌+◌, ℕ, length, slice_index}
use Rattle.contour_runs.specs.Runs.{Step}
use Rattle.order_drawings.specs.Rows.{AreRows}
use Rattle.rect_dual.specs.Sides.{AreTurnPlaces, AreSides}
use Rattle.rect_dual.proofs.rect_sides.fill_sides.Given as goal

abbrev pub invariant-loop-k : goal.invariant-loop-k
invariant-loop-k l = record {
  right_size : length l.right ≡ length l.rows + 2;
  high_size : length l.high ≡ length l.rows + 2;
  sides : (steps : ℕ → Step) (width ceiling : ℕ) → AreRows steps l.rows → AreTurnPlaces steps (length l.rows) l.places → ((v : ℕ) → v < length l.rows + 2 → slice_index l.initial.right v ≡ width) → ((v : ℕ) → v < length l.rows + 2 → slice_index l.initial.high v ≡ ceiling)
      → AreSides steps l.k (length l.rows + 2) (slice_index l.numbers.x.items) (slice_index l.numbers.y.items) width ceiling l.right l.high;
}
