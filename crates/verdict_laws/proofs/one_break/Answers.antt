use Rattle.verdict_laws.proofs.Breaks.{one_break}
use Rattle.verdict_laws.proofs.one_break.Goals as goal

pub returns : goal.returns
returns c = one_break
