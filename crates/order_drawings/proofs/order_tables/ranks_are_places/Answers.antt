use Rattle.order_drawings.proofs.OrderLemmas.{ranks_within}
use Rattle.order_drawings.proofs.order_tables.ranks_are_places.Goals as goal

pub returns : goal.returns
returns c = ranks_within
