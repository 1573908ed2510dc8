use Rattle.wood_laws.proofs.WoodLemmas.{wood_of_order}
use Rattle.wood_laws.proofs.order_woods.wood_of_order.Goals as goal

pub returns : goal.returns
returns c = wood_of_order
