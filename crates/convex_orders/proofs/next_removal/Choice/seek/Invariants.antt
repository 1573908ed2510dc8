use Rattle.std.proofs.Common.{ℕ, ◌<◌, ◌≡◌, ◌+◌, length}
use Rattle.convex_orders.specs.Contours.{vertices_of}
use Rattle.convex_orders.specs.Splits.{IsRemovablePlace}
use Rattle.convex_orders.proofs.next_removal.Choice.seek.Given as goal

abbrev pub invariant-loop : goal.invariant-loop
invariant-loop l = record {
  same : vertices_of l.contour ≡ vertices_of l.initial.contour;
  long : length l.contour.left.items + l.counter ≡ length l.initial.contour.left.items + 1;
  behind : 0 < length l.contour.right.items;
  none : (j : ℕ) → IsRemovablePlace l.self.map.tables.now.faces.own l.self.map.tables.now.faces.other l.self.map.marks.now l.self.counts.now.places.items l.self.counts.now.edges.items (vertices_of l.initial.contour) j → j < length l.initial.contour.left.items → j < length l.contour.left.items;
}
