use Rattle.std.proofs.Common.{refl}
use Rattle.left_right_check.proofs.TieLemmas.{HasNoMap-odd}
use Rattle.left_right_test.proofs.planarity_test.LeftRightTest.is_refuted.Goals as goal

pub returns-in-Some : goal.returns-in-Some
returns-in-Some c = λ yes. HasNoMap-odd c.args.graph.now c.first-parents.result.now c.first-depths.result.now _ _ _ _ (c.if-not-is_forest.ensures refl) c.in-Some.ensures (c.are_bound.ensures yes)
