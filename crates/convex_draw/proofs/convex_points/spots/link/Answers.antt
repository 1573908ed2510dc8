use Rattle.std.proofs.Common.{arith}
use Rattle.convex_draw.proofs.Writes.{AreLinked-more}
use Rattle.convex_draw.proofs.convex_points.spots.link.Goals as goal

pub loop-j-preserved : goal.loop-j-preserved
loop-j-preserved c =
    let same = c.loop-j.auto.spots in
    let low = c.loop-j.auto in
    let l = c.requires.within c.loop-j.j 0 c.loop-j-test.true in
    AreLinked-more c.args.news.now c.loop-j.j c.args.spots.now c.loop-j.spots c.loop-j.invariant (omega arith) c.loop-j-test.true (omega arith) c.requires.distinct
