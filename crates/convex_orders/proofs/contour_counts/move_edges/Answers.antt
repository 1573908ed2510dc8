use Rattle.std.proofs.Common.{◌+◌, ◌-◌, ℕ, length, slice_index, length-set, arith}
use Rattle.convex_orders.specs.Contours.{number_at}
use Rattle.convex_orders.specs.Counts.{numbered_below}
use Rattle.convex_orders.proofs.CountLemmas.{IsMoved-none, can_one, moved_one, numbered_more, numbered_to}
use Rattle.convex_orders.proofs.contour_counts.move_edges.Goals as goal

pub loop-i-init : goal.loop-i-init
loop-i-init c = λ f l. IsMoved-none c.args.way (slice_index c.args.counts.now f)

pub bounds-inner-vs : goal.bounds-inner-vs
bounds-inner-vs c = c.requires.vertices c.loop-i.i (omega (arith, c.loop-i-test.true))

pub bounds-counts-f : goal.bounds-counts-f
bounds-counts-f c = omega (arith, c.requires.below c.loop-i.i (omega (arith, c.loop-i-test.true)), c.loop-i.auto.counts)

pub moved-requires : goal.moved-requires
moved-requires c =
    let number = number_at c.args.inner.now c.args.vs.now in
    let i = c.loop-i.i in
    let x = number i in
    let most : ℕ = length c.args.vs.now - 1 in
    let l = c.requires.below i (omega (arith, c.loop-i-test.true)) in
    can_one c.args.way (numbered_below number i) (numbered_below number (i + 1)) c.args.counts.now c.loop-i.counts x (omega (arith, l, c.loop-i.auto.counts)) (numbered_more number i) c.loop-i.invariant
    (numbered_below number most x) (numbered_to number i most x c.loop-i-test.true) (c.requires.can x l)

pub loop-i-preserved : goal.loop-i-preserved
loop-i-preserved c =
    let number = number_at c.args.inner.now c.args.vs.now in
    let i = c.loop-i.i in
    let x = number i in
    let l = c.requires.below i (omega (arith, c.loop-i-test.true)) in
    λ f m. moved_one c.args.way (numbered_below number i) (numbered_below number (i + 1)) c.args.counts.now c.loop-i.counts x (omega (arith, l, c.loop-i.auto.counts)) (numbered_more number i) c.loop-i.invariant
    c.moved.result c.moved.ensures f (omega (arith, m, length-set c.loop-i.counts x c.moved.result))
