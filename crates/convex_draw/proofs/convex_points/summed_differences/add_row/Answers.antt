use Rattle.std.proofs.Common.{◌≡◌, ◌-◌, length, subst, arith}
use Rattle.convex_draw.specs.Sums.{AreAdded}
use Rattle.convex_draw.proofs.convex_points.summed_differences.add_row.Goals as goal

pub returns : goal.returns
returns c =
    let some = c.requires.free.some in
    let test = c.loop-j-test.false in
    let low = c.loop-j.auto in
    let end = c.loop-j.auto.j-end (omega arith) in
    let e : c.loop-j.j ≡ length c.args.row.now - 1 = omega arith in
    subst (λ j. AreAdded c.args.row.now j c.args.spots.now c.loop-j.spots) e c.loop-j.invariant
