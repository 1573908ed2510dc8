use Rattle.convex_laws.proofs.ConvexWoodsWhole.{some_out}
use Rattle.convex_laws.proofs.convex_woods.some_out.Goals as goal

pub returns : goal.returns
returns c = some_out
