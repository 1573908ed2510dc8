use Rattle.std.proofs.Common.{ℕ, below_more, rules}
use Rattle.plane_drawings.specs.Drawing.{place, IsInGrid}
use Rattle.draw_check.proofs.drawing.PointDrawing.first_outside.Goals as goal

pub loop-v-preserved : goal.loop-v-preserved
loop-v-preserved c =
    let corner = c.args.corner in
    below_more (λ (u : ℕ). IsInGrid corner.x corner.y (place c.args.self.now.points.now u)) c.loop-v.v c.loop-v.invariant (search rules)

pub returns-then-not-is_in_grid : goal.returns-then-not-is_in_grid
returns-then-not-is_in_grid c = record {
  here = record { vertex = search rules; outside = search rules };
  before = λ u l leaves. leaves.outside (c.loop-v.invariant u l);
}
