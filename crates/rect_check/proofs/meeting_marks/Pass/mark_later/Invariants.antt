use Rattle.std.proofs.Common.{◌≡◌, length}
use Rattle.rect_check.specs.Loops.{AreKept}
use Rattle.rect_check.specs.Meets.{DoReach, LaterAreMarked}
use Rattle.rect_check.proofs.meeting_marks.Pass.mark_later.Given as goal

abbrev pub invariant-loop-i : goal.invariant-loop-i
invariant-loop-i l = record {
  table : length l.table ≡ length l.self.rects.map.now.lists;
  marks : length l.marks ≡ length l.self.rects.map.now.lists;
  kept : AreKept l.fn.marks l.marks;
  reach : DoReach l.self.back (length l.self.rects.map.now.lists) l.self.rects.fig.now l.order l.i l.table;
  later : LaterAreMarked l.self.rects.fig.now l.order l.i l.marks;
}
