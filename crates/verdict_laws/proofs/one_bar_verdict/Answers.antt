use Rattle.verdict_laws.proofs.BarVerdicts.{one_bar_verdict}
use Rattle.verdict_laws.proofs.one_bar_verdict.Goals as goal

pub returns : goal.returns
returns c = one_bar_verdict
