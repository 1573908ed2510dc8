use Rattle.left_right_check.specs.Ties.{AreTied}
use Rattle.left_right_test.proofs.conflict_proof.Conflict.start_of_ring.Given as goal

abbrev pub invariant-loop : goal.invariant-loop
invariant-loop l = AreTied l.self.forest.graph.now l.self.forest.parents.now l.self.forest.depths.now l.side l.fn.found.from l.fn.found.to l.at.from l.at.to
