use Rattle.std.proofs.Common.{length, ◌∙◌, arith}
use Rattle.rect_check.proofs.MeetLemmas.{DoReach-more, LaterAreMarked-more}
use Rattle.rect_check.proofs.meeting_marks.Pass.mark_later.Goals as goal

pub loop-i-preserved : goal.loop-i-preserved
loop-i-preserved c =
    let a = c.args in
    let v = c.loop-i.invariant in
    let m = c.mark_next in
    record {
      table = m.ensures.table ∙ v.table;
      marks = m.ensures.marks ∙ v.marks;
      kept = λ x k. m.ensures.kept x (v.kept x k);
      reach = DoReach-more a.self.now.back (length a.self.now.rects.map.now.lists) a.self.now.rects.fig.now c.args.self.now.rects.rects a.order.now c.loop-i.i c.loop-i.table m.new.table v.reach m.ensures.inside m.ensures.grown;
      later = LaterAreMarked-more a.self.now.back (length a.self.now.rects.map.now.lists) a.self.now.rects.fig.now c.args.self.now.rects.rects a.order.now c.loop-i.i c.loop-i.table m.new.table v.reach c.loop-i.marks m.new.marks m.ensures.kept v.later (λ j l. c.requires.vertices j 0 (omega (arith, l, c.loop-i-test.true))) (c.requires.vertices c.loop-i.i 0 (omega (arith, c.loop-i-test.true))) m.ensures.found;
    }
