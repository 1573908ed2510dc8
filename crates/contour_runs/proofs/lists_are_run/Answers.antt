use Rattle.contour_runs.proofs.Growing.{lists_are_run}
use Rattle.contour_runs.proofs.lists_are_run.Goals as goal

pub returns : goal.returns
returns c = lists_are_run
