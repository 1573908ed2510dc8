use Rattle.verdict_laws.proofs.FigureVerdicts.{one_figure_verdict}
use Rattle.verdict_laws.proofs.one_figure_verdict.Goals as goal

pub returns : goal.returns
returns c = one_figure_verdict
