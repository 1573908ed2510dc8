use Rattle.vertex_rounds.specs.Rounds.{dart_of}
use Rattle.convex_check.proofs.VerdictLemmas.{IsConvex-unbent}
use Rattle.convex_check.proofs.check.check_convex_points.Goals as goal

pub returns-then-branch : goal.returns-then-branch
returns-then-branch c =
    IsConvex-unbent c.args.map.now.lists c.args.points.now (dart_of c.args.map.now c.args.base.0) c.in_default.ensures (c.in_ok-is_outer_convex.ensures.0 c.if-branch.true)
