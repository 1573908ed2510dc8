use Rattle.std.proofs.Common.{◌≡◌, ◌≤◌, inl, inr, subst, arith}
use Rattle.std.proofs.lemmas.Bool.{cases_lt, cases_eq}
use Rattle.embed_witnesses.specs.declared.lifted_witnesses.change_kinds.Change.TheVariants.{Mended}
use Rattle.embed_witnesses.specs.Changes.{step_count, IsRight}
use Rattle.embed_witnesses.proofs.lifted_witnesses.tried_changes.Lifting.mended.Goals as goal

pub loop-place-preserved : goal.loop-place-preserved
loop-place-preserved c = λ place l r.
    elim (cases_eq place c.loop-place.place) [
      | inl e ↦
          let none = rw c.in-None.is at c.in_ok-w.ensures in
          none (subst (λ p. IsRight c.args.self.now.graph.now c.args.self.now.old.now (Mended (record { exchange = c.args.exchange; a = c.args.self.now.e.a.0; b = c.args.self.now.e.b.0; path = c.loop-path.path; place = p }))) e r)
      | inr ne ↦ c.loop-place.invariant place (omega (arith, l, ne)) r
    ]

pub loop-path-preserved : goal.loop-path-preserved
loop-path-preserved c = λ path place l m r.
    elim (cases_lt path c.loop-path.path) [
      | inl less ↦ c.loop-path.invariant path place less m r
      | inr more ↦
          let e : path ≡ c.loop-path.path = omega arith in
          let within : place ≤ step_count c.args.self.now.old.now.paths c.loop-path.path = subst (λ p. place ≤ step_count c.args.self.now.old.now.paths p) e m in
          c.loop-place.invariant place (omega (arith, within, c.loop-place-test.false, c.step_count-place-end.ensures.value))
          (subst (λ p. IsRight c.args.self.now.graph.now c.args.self.now.old.now (Mended (record { exchange = c.args.exchange; a = c.args.self.now.e.a.0; b = c.args.self.now.e.b.0; path = p; place = place }))) e r)
    ]
