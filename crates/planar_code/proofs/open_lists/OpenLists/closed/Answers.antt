-- Each list ends once.
use Rattle.std.proofs.Common.{length, ap, arith}
use Rattle.map_lists.proofs.CutLemmas.{length-cut}
use Rattle.planar_code.proofs.open_lists.OpenLists.closed.Goals as goal

pub returns : goal.returns
returns c =
    let is = ap (λ o. length o.lists) c.self.view_is in
    omega (arith, is, length-cut 0 c.self.inside.ends.items c.self.inside.entries.items)
