use Rattle.std.proofs.Common.{ap, ◌∙◌}
use Rattle.map_lists.specs.Cuts.{ends_from}
use Rattle.map_lists.proofs.CutLemmas.{stored}
use Rattle.map_lists.proofs.item_lists.ItemLists.ends.Goals as goal

pub returns : goal.returns
returns g c = c.deref.ensures.value ∙ (stored c.self.inside.ends.items c.self.inside.entries.items c.self.invariant).ends_are ∙ ap (λ lists. ends_from 0 lists) c.self.view_is
