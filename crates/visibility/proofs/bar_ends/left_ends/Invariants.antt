use Rattle.visibility.specs.Ends.{IsLeastOf}
use Rattle.visibility.proofs.EndRows.{AreEndsBelow}
use Rattle.visibility.proofs.bar_ends.left_ends.Given as goal

abbrev pub invariant-loop-v : goal.invariant-loop-v
invariant-loop-v l = AreEndsBelow l.rows IsLeastOf l.v l.ends
