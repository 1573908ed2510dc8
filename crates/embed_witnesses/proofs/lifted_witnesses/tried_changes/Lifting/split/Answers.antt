use Rattle.std.proofs.Common.{◌≡◌, inl, inr, subst, arith}
use Rattle.std.proofs.lemmas.Bool.{cases_lt}
use Rattle.embed_witnesses.specs.declared.lifted_witnesses.change_kinds.Change.TheVariants.{Split}
use Rattle.embed_witnesses.specs.Changes.{IsRight}
use Rattle.embed_witnesses.proofs.lifted_witnesses.tried_changes.Lifting.split.Goals as goal

pub loop-order-preserved : goal.loop-order-preserved
loop-order-preserved c = λ order l r.
    elim (cases_lt order c.loop-order.order) [
      | inl less ↦ c.loop-order.invariant order less r
      | inr more ↦
          let e : order ≡ c.loop-order.order = omega arith in
          let none = rw c.in-None.is at c.in_ok-w.ensures in
          none (subst (λ k. IsRight c.args.self.now.graph.now c.args.self.now.old.now (Split (record { a = c.args.self.now.e.a.0; b = c.args.self.now.e.b.0; order = k }))) e r)
    ]

pub returns : goal.returns
returns c = λ order l r. c.loop-order.invariant order (omega (arith, c.loop-order-test.false)) r
