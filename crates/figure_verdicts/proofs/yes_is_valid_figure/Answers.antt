use Rattle.figure_verdicts.proofs.VerdictLemmas.{yes_is_valid}
use Rattle.figure_verdicts.proofs.yes_is_valid_figure.Goals as goal

pub returns : goal.returns
returns c = yes_is_valid c.no_fault_is_simple.ensures c.yes_is_valid.ensures c.yes_is_dual.ensures
