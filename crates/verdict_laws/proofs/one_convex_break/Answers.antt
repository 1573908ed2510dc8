use Rattle.verdict_laws.proofs.Breaks.{one_convex_break}
use Rattle.verdict_laws.proofs.one_convex_break.Goals as goal

pub returns : goal.returns
returns c = one_convex_break c.biconnected_break_nothing.ensures
