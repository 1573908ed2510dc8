use Rattle.rect_orders.proofs.Figures.{dual_for_first}
use Rattle.rect_orders.proofs.rect_duals.dual_for_first.Goals as goal

pub returns : goal.returns
returns c = dual_for_first
