use Rattle.std.proofs.Common.{length, ap, arith}
use Rattle.map_lists.proofs.CutLemmas.{length-cut}
use Rattle.map_lists.proofs.item_lists.ItemLists.len.Goals as goal

pub returns : goal.returns
returns g c = omega (arith, length-cut 0 c.self.inside.ends.items c.self.inside.entries.items, ap length c.self.view_is)
