use Rattle.convex_laws.proofs.Maps.{convex_run_draws}
use Rattle.convex_laws.proofs.convex_drawings.convex_run_draws.Goals as goal

pub returns : goal.returns
returns c = convex_run_draws
