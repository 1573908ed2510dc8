use Rattle.std.proofs.Common.{inl, inr, ⊎_elim, arith}
use Rattle.std.proofs.lemmas.Bool.{cases_lt}
use Rattle.bar_check.proofs.exact_sweep.fill_between.Goals as goal

pub returns-clause-outside : goal.returns-clause-outside
returns-clause-outside c = λ k out.
    elim (cases_lt k c.args.left) [
      | inl before ↦ c.loop-k.invariant.outside k (inl before)
      | inr from ↦ c.loop-k.invariant.outside k (inr (⊎_elim (λ l. absurd (omega arith)) (λ l. let end = c.min-end.ensures in omega (arith, c.loop-k.auto.k-end)) out))
    ]
