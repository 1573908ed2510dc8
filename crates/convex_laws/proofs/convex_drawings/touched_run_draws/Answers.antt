use Rattle.convex_laws.proofs.ConvexDrawingsTurned.{touched_run_draws}
use Rattle.convex_laws.proofs.convex_drawings.touched_run_draws.Goals as goal

pub returns : goal.returns
returns c = touched_run_draws
