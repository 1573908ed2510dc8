use Rattle.convex_laws.proofs.ConvexRunsWhole.{run_of_map_law}
use Rattle.convex_laws.proofs.convex_runs.run_of_map.Goals as goal

pub returns : goal.returns
returns c = run_of_map_law
