use Rattle.verdict_laws.proofs.WitnessVerdicts.{one_witness_verdict}
use Rattle.verdict_laws.proofs.one_witness_verdict.Goals as goal

pub returns : goal.returns
returns c = one_witness_verdict
