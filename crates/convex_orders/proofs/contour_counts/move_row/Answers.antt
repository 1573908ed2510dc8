use Rattle.std.proofs.Common.{◌+◌, ◌==◌, slice_index, count_by, take, length-set, arith}
use Rattle.convex_orders.proofs.CountLemmas.{IsMoved-none, can_one, moved_one, entries_more, entries_to}
use Rattle.convex_orders.proofs.contour_counts.move_row.Goals as goal

pub loop-u-init : goal.loop-u-init
loop-u-init c = λ f l. IsMoved-none c.args.way (slice_index c.args.counts.now f)

pub moved-requires : goal.moved-requires
moved-requires c =
    let row = c.args.row.now in
    let i = c.loop-u.u-index in
    let x = slice_index row i in
    let l = c.requires.within i 0 c.loop-u-test.true in
    can_one c.args.way (λ f. count_by (λ u. u == f) (take i row)) (λ f. count_by (λ u. u == f) (take (i + 1) row)) c.args.counts.now c.loop-u.counts x (omega (arith, l, c.loop-u.auto.counts)) (entries_more row i c.loop-u-test.true) c.loop-u.invariant
    (count_by (λ u. u == x) row) (entries_to row (i + 1) x) (c.requires.can x l)

pub loop-u-preserved : goal.loop-u-preserved
loop-u-preserved c =
    let row = c.args.row.now in
    let i = c.loop-u.u-index in
    let x = slice_index row i in
    λ f m. moved_one c.args.way (λ f. count_by (λ u. u == f) (take i row)) (λ f. count_by (λ u. u == f) (take (i + 1) row)) c.args.counts.now c.loop-u.counts x (omega (arith, c.requires.within i 0 c.loop-u-test.true, c.loop-u.auto.counts)) (entries_more row i c.loop-u-test.true) c.loop-u.invariant
    c.moved.result c.moved.ensures f (omega (arith, m, length-set c.loop-u.counts x c.moved.result))
