use Rattle.std.proofs.Common.{subst, inl, inr, arith}
use Rattle.std.proofs.lemmas.Bool.{cases_eq}
use Rattle.kuratowski.specs.Faults.{IsShared}
use Rattle.kuratowski.proofs.inner_vertices.shared.Goals as goal

pub loop-first-preserved : goal.loop-first-preserved
loop-first-preserved c = λ k q v l s. elim (cases_eq k c.loop-first.first) [
  | inl e ↦ c.in-None.ensures q v (subst (λ x. IsShared c.args.branch.now c.args.paths.now x q v) e s)
  | inr n ↦ c.loop-first.invariant k q v (omega arith) s
]

pub returns : goal.returns
returns c = λ p q v s. c.loop-first.invariant p q v (omega (arith, s.order, s.within)) s
