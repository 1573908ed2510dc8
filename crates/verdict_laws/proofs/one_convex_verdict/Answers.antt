use Rattle.verdict_laws.proofs.ConvexVerdicts.{one_convex_verdict}
use Rattle.verdict_laws.proofs.one_convex_verdict.Goals as goal

pub returns : goal.returns
returns c = one_convex_verdict
