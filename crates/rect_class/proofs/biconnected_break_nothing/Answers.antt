use Rattle.rect_class.proofs.RectMapLemmas.{nothing_broken}
use Rattle.rect_class.proofs.biconnected_break_nothing.Goals as goal

pub returns : goal.returns
returns c = nothing_broken c.biconnected_break_nothing.ensures
