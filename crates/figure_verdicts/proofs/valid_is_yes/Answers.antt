use Rattle.figure_verdicts.proofs.VerdictLemmas.{valid_is_yes}
use Rattle.figure_verdicts.proofs.valid_is_yes.Goals as goal

pub returns : goal.returns
returns c = valid_is_yes c.no_fault_is_simple.ensures c.yes_is_valid.ensures c.yes_is_valid-2.ensures c.yes_is_convex.ensures c.yes_is_dual.ensures
