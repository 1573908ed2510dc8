use Rattle.left_right_lists.specs.Trees.{grown_depth}
use Rattle.left_right_lists.proofs.Tabled.{tabled_more}
use Rattle.left_right_lists.proofs.joined_forest.JoinedForest.all_depths.Goals as goal

pub loop-v-preserved : goal.loop-v-preserved
loop-v-preserved c = tabled_more (grown_depth c.args.self.now.parents.now c.args.self.now.depths.now c.args.self.now.root) c.loop-v.table.items _ c.loop-v.v _ c.in_ok-push.ensures.items c.depth.ensures c.loop-v.invariant
