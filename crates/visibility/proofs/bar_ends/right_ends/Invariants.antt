use Rattle.visibility.specs.Ends.{IsGreatestOf}
use Rattle.visibility.proofs.EndRows.{AreEndsBelow}
use Rattle.visibility.proofs.bar_ends.right_ends.Given as goal

abbrev pub invariant-loop-v : goal.invariant-loop-v
invariant-loop-v l = AreEndsBelow l.rows IsGreatestOf l.v l.ends
