use Rattle.std.proofs.Common.{◌≡◌, length}
use Rattle.rect_check.specs.Axes.{sides}
use Rattle.rect_check.specs.Loops.{AreKept, AreLast, DoFollow}
use Rattle.rect_check.proofs.sweep.Ordered.follow_all.Given as goal

abbrev pub invariant-loop-i : goal.invariant-loop-i
invariant-loop-i l = record {
  size : length l.last ≡ length l.self.axis.map.now.lists;
  runs : length l.until ≡ length l.self.axis.map.now.lists;
  last : AreLast l.self.axis.map.now.lists (sides l.self.axis) l.self.order.now l.i l.last l.until;
  marks : length l.marks ≡ length l.self.axis.map.now.lists;
  kept : AreKept l.fn.marks l.marks;
  follow : DoFollow l.self.axis.map.now.lists l.marks (sides l.self.axis) l.self.order.now l.i;
}
