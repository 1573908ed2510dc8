use Rattle.std.proofs.Common.{◌∙◌, ap, set, ℤ}
use Rattle.std.specs.Int.{w32}
use Rattle.std.proofs.lemmas.Int.{to_z-of_z}
use Rattle.fpp_shift.proofs.WriteLemmas.{SetsX-set}
use Rattle.fpp_shift.proofs.offset_trees.node_writes.set_x.Goals as goal

pub returns-clause-set : goal.returns-clause-set
returns-clause-set g c = SetsX-set c.args.tree.now _ c.args.u c.args.x c.get-node.result c.requires c.get-node.ensures.node (c.put.ensures.set ∙ ap (λ (z : ℤ). set c.args.tree.now c.args.u (record c.get-node.result { x = z })) (to_z-of_z w32 c.args.x c.ranges.x))
