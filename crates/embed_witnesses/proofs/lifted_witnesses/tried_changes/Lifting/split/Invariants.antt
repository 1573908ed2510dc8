use Rattle.std.proofs.Common.{ℕ, ◌<◌}
use Rattle.embed_witnesses.specs.declared.lifted_witnesses.change_kinds.Change.TheVariants.{Split}
use Rattle.embed_witnesses.specs.Changes.{IsRight}
use Rattle.embed_witnesses.proofs.lifted_witnesses.tried_changes.Lifting.split.Given as goal

abbrev pub invariant-loop-order : goal.invariant-loop-order
invariant-loop-order l =
    (order : ℕ) → order < l.order → ¬ IsRight l.self.graph.now l.self.old.now (Split (record { a = l.self.e.a.0; b = l.self.e.b.0; order = order }))
