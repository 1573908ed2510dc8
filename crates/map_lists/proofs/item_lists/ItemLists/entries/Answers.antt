use Rattle.std.proofs.Common.{ap, ◌∙◌}
use Rattle.map_lists.specs.Cuts.{joined}
use Rattle.map_lists.proofs.CutLemmas.{stored}
use Rattle.map_lists.proofs.item_lists.ItemLists.entries.Goals as goal

pub returns : goal.returns
returns g c = c.deref.ensures.value ∙ (stored c.self.inside.ends.items c.self.inside.entries.items c.self.invariant).entries_are ∙ ap joined c.self.view_is
