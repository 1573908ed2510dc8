use Rattle.verdict_laws.proofs.GridVerdicts.{one_outer_verdict}
use Rattle.verdict_laws.proofs.one_outer_verdict.Goals as goal

pub returns : goal.returns
returns c = one_outer_verdict
