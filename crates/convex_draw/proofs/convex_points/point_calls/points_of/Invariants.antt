use Rattle.convex_draw.specs.Points.{ArePlaced}
use Rattle.convex_draw.proofs.convex_points.point_calls.points_of.Given as goal

abbrev pub invariant-loop-v : goal.invariant-loop-v
invariant-loop-v l = ArePlaced l.spots l.v l.points
