use Rattle.left_right_check.proofs.TieLemmas.{AreTied-sym}
use Rattle.left_right_test.proofs.conflict_proof.Conflict.is_step.Goals as goal

pub returns-then-end-eq0 : goal.returns-then-end-eq0
returns-then-end-eq0 c = λ yes. AreTied-sym c.args.self.now.forest.graph.now c.args.self.now.forest.parents.now c.args.self.now.forest.depths.now c.args.turn _ _ _ _ (c.is_tie.ensures yes)
