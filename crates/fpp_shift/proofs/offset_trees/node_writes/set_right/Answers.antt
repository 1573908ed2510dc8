use Rattle.fpp_shift.proofs.WriteLemmas.{SetsRight-set}
use Rattle.fpp_shift.proofs.offset_trees.node_writes.set_right.Goals as goal

pub returns-clause-set : goal.returns-clause-set
returns-clause-set g c = SetsRight-set c.args.tree.now _ c.args.u c.args.link c.get-node.result c.requires c.get-node.ensures.node c.put.ensures.set
