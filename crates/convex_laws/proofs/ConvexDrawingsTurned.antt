-- A run with few turns draws its map, since the map is one of the run with its turns read off too.
use Rattle.convex_counts.specs.Turns.{well_turned}
use Rattle.convex_counts.proofs.Whole.{touched_turns}
use Rattle.convex_laws.specs.ConvexDrawings.{TouchedRunDraws}
use Rattle.convex_laws.proofs.ConvexWoodsTurned.{map_as_before}
use Rattle.convex_laws.proofs.Maps.{convex_run_draws}

pub touched_run_draws : TouchedRunDraws
touched_run_draws lists base steps n rank face points t m placed = convex_run_draws lists base (well_turned steps) n rank face points (touched_turns steps n t) t.some (map_as_before lists base steps n rank face m) placed
