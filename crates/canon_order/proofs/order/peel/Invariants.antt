use Rattle.std.proofs.Common.{◌≡◌, ◌≤◌, map, drop, length}
use Rattle.canon_order.specs.Contours.{IsPrepared, IsContour}
use Rattle.canon_order.proofs.order.peel.Given as goal

abbrev pub invariant-loop-k : goal.invariant-loop-k
invariant-loop-k l = record {
  gone_count : length l.gone ≡ length l.base.lists.now;
  prepared : IsPrepared l.base.lists.now l.base.t l.base.s l.marked l.near l.stack.items;
  low : 3 ≤ l.k;
  contour : IsContour l.base.lists.now l.base.t l.base.s l.gone l.marked (drop l.k (map (λ v. v.0) l.at));
}
