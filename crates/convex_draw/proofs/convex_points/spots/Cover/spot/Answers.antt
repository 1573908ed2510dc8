use Rattle.std.proofs.Common.{rules}
use Rattle.convex_draw.specs.Spots.{settled}
use Rattle.convex_draw.proofs.convex_points.spots.Cover.spot.Goals as goal

pub returns-then-gain-eq0 : goal.returns-then-gain-eq0
unfolding settled
returns-then-gain-eq0 c = search rules

pub returns-then-gain-self : goal.returns-then-gain-self
unfolding settled
returns-then-gain-self c = search rules

pub returns-else-gain-self : goal.returns-else-gain-self
unfolding settled
returns-else-gain-self c = search rules
