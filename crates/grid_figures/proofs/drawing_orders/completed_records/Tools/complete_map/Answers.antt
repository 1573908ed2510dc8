use Rattle.plane_laws.proofs.Extended.{IsExtended-itself}
use Rattle.grid_figures.proofs.drawing_orders.completed_records.Tools.complete_map.Goals as goal

pub returns-then-m-n-clause-extended : goal.returns-then-m-n-clause-extended
returns-then-m-n-clause-extended c = IsExtended-itself c.args.map.now.lists
