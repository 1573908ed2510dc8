use Rattle.verdict_laws.proofs.RectVerdicts.{one_rect_verdict}
use Rattle.verdict_laws.proofs.one_rect_verdict.Goals as goal

pub returns : goal.returns
returns c = one_rect_verdict
