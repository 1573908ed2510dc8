use Rattle.std.proofs.Common.{◌<◌, ℕ, List, length, eqb, get_or, slice_index, count_by, All, sym, subst, arith}
use Rattle.convex_orders.specs.Counts.{met_at, met_below}
use Rattle.convex_orders.specs.Ways.{CanMove, IsMoved}
use Rattle.convex_orders.proofs.CountLemmas.{met_more, met_within, IsMoved-none, IsMoved-more, CanMove-more}
use Rattle.convex_orders.proofs.contour_counts.move_rows.Goals as goal

pub loop-i-init : goal.loop-i-init
loop-i-init c = λ f l. IsMoved-none c.args.way (slice_index c.args.counts.now f)

pub move_row-requires-clause-within : goal.move_row-requires-clause-within
move_row-requires-clause-within c =
    let same = c.loop-i.auto.counts in
    let i = c.loop-i.i in
    subst (λ (z : List ℕ). All (λ u. u < length c.loop-i.counts) z) (sym c.list.ensures) (λ k d m. let h = c.requires.below (get_or c.args.vs.now i 0) (c.requires.vertices i c.loop-i-test.true) k d m in omega arith)

pub move_row-requires-clause-can : goal.move_row-requires-clause-can
move_row-requires-clause-can c = λ f l.
    let own = c.args.own.now in
    let vs = c.args.vs.now in
    let i = c.loop-i.i in
    subst (λ (z : List ℕ). CanMove c.args.way (slice_index c.loop-i.counts f) (count_by (λ u. eqb u f) z)) (sym c.list.ensures)
    (CanMove-more c.args.way (slice_index c.args.counts.now f) (met_below own vs i f) (met_at own f (slice_index vs i)) (met_below own vs (length vs) f) (slice_index c.loop-i.counts f)
    (c.requires.can f (omega (arith, l, c.loop-i.auto.counts))) (met_within own vs i (length vs) f c.loop-i-test.true) (c.loop-i.invariant f l))

pub loop-i-preserved : goal.loop-i-preserved
loop-i-preserved c = λ f l.
    let own = c.args.own.now in
    let vs = c.args.vs.now in
    let i = c.loop-i.i in
    let m : f < length c.loop-i.counts = omega (arith, l, c.move_row.auto.counts) in
    let now = subst (λ (z : List ℕ). IsMoved c.args.way (slice_index c.loop-i.counts f) (count_by (λ u. eqb u f) z) (slice_index c.move_row.new.counts f)) c.list.ensures (c.move_row.ensures f m) in
    subst (λ n. IsMoved c.args.way (slice_index c.args.counts.now f) n (slice_index c.move_row.new.counts f)) (sym (met_more own vs i f))
    (IsMoved-more c.args.way (slice_index c.args.counts.now f) (met_below own vs i f) (met_at own f (slice_index vs i)) (slice_index c.loop-i.counts f) (slice_index c.move_row.new.counts f) (c.loop-i.invariant f m) now)
