use Rattle.std.proofs.Common.{◌+◌, ◌<◌, ℕ, length, slice_index, take, pos, sym, ap, ◌∙◌, subst, arith}
use Rattle.pg_plane.specs.declared.grid_points.Point.{Point}
use Rattle.order_drawings.specs.Points.{ArePointsAt}
use Rattle.order_drawings.proofs.PointLemmas.{ArePointsAt-more}
use Rattle.order_drawings.proofs.order_tables.points_by_rank.points_at.Goals as goal

pub loop-k-preserved : goal.loop-k-preserved
loop-k-preserved c =
    let k : ℕ = c.loop-k.k-index in
    let ranks = c.as_slice-k-items.ensures in
    let l : k < length c.args.ranks.now = omega (arith, c.loop-k-test.true, ap length ranks) in
    let at : ℕ → Point = λ r. record { x = pos (slice_index c.args.xs.now r); y = pos (slice_index c.args.ys.now r) } in
    subst (λ points. ArePointsAt c.args.xs.now c.args.ys.now (take (k + 1) c.args.ranks.now) points) (sym c.in_ok-push.ensures.ok)
    (ArePointsAt-more c.args.xs.now c.args.ys.now c.args.ranks.now k c.loop-k.points c.point_at.result c.loop-k.invariant l (c.point_at.ensures ∙ ap (λ us. at (slice_index us k)) ranks))
