use Rattle.std.proofs.Common.{take}
use Rattle.order_drawings.specs.Points.{ArePointsAt}
use Rattle.order_drawings.proofs.order_tables.points_by_rank.points_at.Given as goal

abbrev pub invariant-loop-k : goal.invariant-loop-k
invariant-loop-k l = ArePointsAt l.xs l.ys (take l.k-index l.ranks) l.points
