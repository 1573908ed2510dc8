use Rattle.convex_laws.proofs.ConvexWoodsWhole.{wood_of_run}
use Rattle.convex_laws.proofs.convex_woods.wood_of_run.Goals as goal

pub returns : goal.returns
returns c = wood_of_run
