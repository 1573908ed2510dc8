use Rattle.std.proofs.Common.{refl, true}
use Rattle.left_right_check.proofs.TieLemmas.{AreTied-more, AreTied-sym}
use Rattle.left_right_test.proofs.conflict_proof.Conflict.are_bound.Goals as goal

pub returns : goal.returns
returns c = λ last. AreTied-more c.args.self.now.forest.graph.now c.args.self.now.forest.parents.now c.args.self.now.forest.depths.now true true _ _ _ _ _ _ (c.if-not-are_opposite.ensures refl) (AreTied-sym c.args.self.now.forest.graph.now c.args.self.now.forest.parents.now c.args.self.now.forest.depths.now true _ _ _ _ (c.are_opposite-2.ensures last))
