use Rattle.std.proofs.Common.{length, rules, arith}
use Rattle.rect_dual.proofs.Walks.{AreWalked-more}
use Rattle.rect_dual.proofs.line_lists.walk.Goals as goal

pub loop-i-preserved : goal.loop-i-preserved
loop-i-preserved c =
    let size = c.loop-i.invariant.size in
    record {
      thing = c.requires.within c.loop-i.r 0 c.loop-i.invariant.thing;
      size = search rules;
      walked = λ f lines h.
          AreWalked-more f (length c.args.next.now) c.args.count c.args.first lines c.args.next.now h c.loop-i.i c.loop-i.r c.loop-i.numbers (omega arith) c.loop-i-test.true (c.loop-i.invariant.walked f lines h);
    }
