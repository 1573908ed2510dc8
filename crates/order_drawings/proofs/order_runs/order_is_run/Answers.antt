use Rattle.order_drawings.proofs.OrderIsRun.{order_is_run}
use Rattle.order_drawings.proofs.order_runs.order_is_run.Goals as goal

pub returns : goal.returns
returns c = λ lists base at triangulation order. order_is_run lists base at triangulation order c.last_cycle.ensures
