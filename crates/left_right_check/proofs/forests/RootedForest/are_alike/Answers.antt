use Rattle.std.proofs.Common.{refl}
use Rattle.left_right_check.proofs.TieLemmas.{alike_by_fork}
use Rattle.left_right_check.proofs.forests.RootedForest.are_alike.Goals as goal

pub returns : goal.returns
returns c = λ last. alike_by_fork c.args.self.now.graph.now c.args.self.now.parents.now c.args.self.now.depths.now c.args.fork.vertex c.args.fork.one c.args.fork.other _ _ _ _ _ _ c.if-fork.false (c.if-not-returns_by.ensures refl) (c.if-not-returns_by-2.ensures refl) (c.if-not-returns_by-3.ensures refl) (c.if-not-ends_above.ensures refl) (c.ends_above-2.ensures last)
