use Rattle.fpp_shift.proofs.WriteLemmas.{SetsNode-set}
use Rattle.fpp_shift.proofs.offset_trees.tree_growth.set_node.Goals as goal

pub returns-clause-set : goal.returns-clause-set
returns-clause-set g c = SetsNode-set c.args.tree.now _ c.args.v c.args.node c.requires c.put.ensures.set
