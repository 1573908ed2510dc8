use Rattle.std.proofs.Common.{◌≡◌, ◌+◌, length}
use Rattle.convex_orders.specs.Contours.{vertices_of}
use Rattle.convex_orders.proofs.contour.Contour.move_to.Given as goal

abbrev pub invariant-loop-back : goal.invariant-loop-back
invariant-loop-back l = record {
  same : vertices_of l.self ≡ vertices_of l.fn.self;
  long : length l.self.left.items + l._back ≡ length l.fn.self.left.items + l.count;
  total : length l.self.left.items + length l.self.right.items ≡ length l.fn.self.left.items + length l.fn.self.right.items;
}

abbrev pub invariant-loop-on : goal.invariant-loop-on
invariant-loop-on l = record {
  same : vertices_of l.self ≡ vertices_of l.fn.self;
  long : length l.self.left.items ≡ l._on;
  total : length l.self.left.items + length l.self.right.items ≡ length l.fn.self.left.items + length l.fn.self.right.items;
}
