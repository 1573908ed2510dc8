use Rattle.std.proofs.Common.{◌≡◌, ◌+◌, length, reverse}
use Rattle.rect_orders.specs.Contours.{IsPrepared, IsContourAt}
use Rattle.rect_orders.proofs.rect_order.vertex_removal.Closed.take_all.Given as goal

abbrev pub invariant-loop : goal.invariant-loop
invariant-loop l = record {
  prepared : IsPrepared l.self.lists.now l.self.frame.bottom.0 l.self.frame.left.0 l.marked l.near l.gone l.away l.stack.items;
  contour : IsContourAt l.self.lists.now l.self.frame l.gone l.marked (reverse l.taken.items);
  place : length l.taken.items + 3 ≡ l.counter;
}
