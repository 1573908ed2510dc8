use Rattle.left_right_lists.specs.Trees.{IsTabled, grown_parent}
use Rattle.left_right_lists.proofs.joined_forest.JoinedForest.all_parents.Given as goal

abbrev pub invariant-loop-v : goal.invariant-loop-v
invariant-loop-v l = IsTabled (grown_parent l.self.parents.now l.self.depths.now l.self.root) l.table.items l.v
