use Rattle.rect_class.proofs.UpperLemmas.{AreUpperCut}
use Rattle.rect_class.proofs.upper_neighbours.upper_rows.Given as goal

abbrev pub invariant-loop-v : goal.invariant-loop-v
invariant-loop-v l = AreUpperCut l.lists l.v l.ends.items l.entries.items
