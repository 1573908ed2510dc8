use Rattle.wood_laws.proofs.Arranging.{some_arranged}
use Rattle.wood_laws.proofs.wood_orders.some_arranged.Goals as goal

pub returns : goal.returns
returns c = some_arranged
