use Rattle.verdict_laws.proofs.Breaks.{one_rect_break}
use Rattle.verdict_laws.proofs.one_rect_break.Goals as goal

pub returns : goal.returns
returns c = one_rect_break c.biconnected_break_nothing.ensures
