use Rattle.map_theory.proofs.Known.{IsSimpleMap-known}
use Rattle.canon_order.proofs.cycle_marks.AtVertex.facts.Goals as goal

pub returns : goal.returns
returns c = IsSimpleMap-known c.args.self.now.lists.now c.args.self.now.simple
