-- The law for a map that it completes, at the triangulation itself.
use Rattle.std.proofs.Common.{ℕ, ◌<◌, length, below_more, arith, rules}
use Rattle.half_edges.specs.Map.{first_dart}
use Rattle.plane_laws.proofs.Extended.{IsExtended-itself}
use Rattle.plane_drawings.specs.Drawing.{place, IsInGrid}
use Rattle.draw_check.specs.Corners.{IsRoundWell}
use Rattle.draw_check.proofs.CornerLemmas.{corners_counterclockwise, has_base}
use Rattle.draw_check.proofs.corner_check.is_drawn_well.Goals as goal

pub loop-v-preserved : goal.loop-v-preserved
loop-v-preserved c =
    let corner = c.args.corner in
    below_more (λ (u : ℕ). IsInGrid corner.x corner.y (place c.args.points.now u) × IsRoundWell c.args.lists.now c.args.points.now u) c.loop-v.v c.loop-v.invariant (search rules)

pub returns : goal.returns
returns c = λ triangulation.
    let lists = c.args.lists.now in
    let points = c.args.points.now in
    let in_grid : (v : ℕ) → v < length lists → IsInGrid c.args.corner.x c.args.corner.y (place points v) = λ v l. (c.loop-v.invariant v (omega (arith, c.loop-v.auto.v-end, l))).0 in
    let rounds : (v : ℕ) → v < length lists → IsRoundWell lists points v = λ v l. (c.loop-v.invariant v (omega (arith, c.loop-v.auto.v-end, l))).1 in
    c.faces_yes_for_fewer.ensures lists lists points c.args.corner.x c.args.corner.y (first_dart lists 0) triangulation.simple triangulation (IsExtended-itself lists)
    (has_base lists points triangulation rounds) (in_grid, corners_counterclockwise lists points triangulation rounds)
