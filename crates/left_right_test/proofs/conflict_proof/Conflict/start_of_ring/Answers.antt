use Rattle.std.proofs.Common.{sym, subst, refl, nat_eq}
use Rattle.left_right_check.specs.Ties.{AreTied}
use Rattle.left_right_check.proofs.TieLemmas.{AreTied-more}
use Rattle.left_right_test.proofs.conflict_proof.Conflict.start_of_ring.Goals as goal

pub loop-preserved : goal.loop-preserved
loop-preserved c =
    subst (λ side. AreTied c.args.self.now.forest.graph.now c.args.self.now.forest.parents.now c.args.self.now.forest.depths.now side c.args.found.from c.args.found.to c.return_edge-next.result.from c.return_edge-next.result.to) (sym c.turned-side.ensures)
    (AreTied-more c.args.self.now.forest.graph.now c.args.self.now.forest.parents.now c.args.self.now.forest.depths.now c.loop.side (nat_eq c.get-turn.result 1) _ _ _ _ _ _ c.loop.invariant (c.if-not-is_step.ensures refl))
