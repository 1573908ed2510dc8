use Rattle.std.proofs.Common.{sym, subst}
use Rattle.map_lists.specs.Lists.{Lists}
use Rattle.grid_figures.specs.Orders.{IsOrdered}
use Rattle.grid_figures.proofs.drawing_orders.completed_records.Tools.order_record.Goals as goal

pub returns-clause-order : goal.returns-clause-order
returns-clause-order c = subst (λ (more : Lists). IsOrdered c.args.input.now.lists.now more c.order_map.new.self.peeler.order) (sym c.in_ok-made.ensures.lists) c.in_ok-made.ensures.order
