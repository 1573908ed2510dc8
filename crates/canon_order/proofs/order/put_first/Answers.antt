use Rattle.canon_order.proofs.PlaceLemmas.{numbers_first}
use Rattle.canon_order.proofs.order.put_first.Goals as goal

pub returns : goal.returns
returns c = numbers_first c.args.at.now _ _ _ c.requires
