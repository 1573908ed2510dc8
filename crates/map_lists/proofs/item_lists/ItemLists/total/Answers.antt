use Rattle.std.proofs.Common.{length, sum_by, ap, arith}
use Rattle.map_lists.proofs.CutLemmas.{stored, IsStored-total}
use Rattle.map_lists.proofs.item_lists.ItemLists.total.Goals as goal

pub returns : goal.returns
returns g c =
    let is = stored c.self.inside.ends.items c.self.inside.entries.items c.self.invariant in
    omega (arith, IsStored-total _ _ _ is, ap (λ lists. sum_by length lists) c.self.view_is)
