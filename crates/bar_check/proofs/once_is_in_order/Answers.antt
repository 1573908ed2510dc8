use Rattle.bar_check.proofs.OrderLemmas.{order_from_once, once_from_order}
use Rattle.bar_check.proofs.once_is_in_order.Goals as goal

pub returns : goal.returns
returns c = λ lists fig v simple lv two. (order_from_once lists fig v simple lv, once_from_order lists fig v simple lv two)
