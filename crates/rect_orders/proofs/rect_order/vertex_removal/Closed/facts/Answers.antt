use Rattle.map_theory.proofs.Known.{IsSimpleMap-known}
use Rattle.rect_orders.proofs.rect_order.vertex_removal.Closed.facts.Goals as goal

pub returns : goal.returns
returns c = IsSimpleMap-known c.args.self.now.lists.now c.args.self.now.simple
