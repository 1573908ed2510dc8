use Rattle.std.proofs.Common.{ap, ◌∙◌}
use Rattle.map_lists.specs.Cuts.{joined, ends_from}
use Rattle.map_lists.proofs.CutLemmas.{stored}
use Rattle.map_lists.proofs.item_lists.ItemLists.into_parts.Goals as goal

pub returns : goal.returns
returns g c =
    let is = stored c.self.inside.ends.items c.self.inside.entries.items c.self.invariant in
    record { entries = is.entries_are ∙ ap joined c.self.view_is; ends = is.ends_are ∙ ap (λ lists. ends_from 0 lists) c.self.view_is }
