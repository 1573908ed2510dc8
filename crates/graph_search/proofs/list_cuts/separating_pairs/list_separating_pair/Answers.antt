use Rattle.std.proofs.Common.{subst, inl, inr, arith}
use Rattle.std.proofs.lemmas.Bool.{cases_eq}
use Rattle.graph_search.specs.Cuts.{IsSeparatingPair}
use Rattle.graph_search.proofs.PartnerLemmas.{least_pair}
use Rattle.graph_search.proofs.list_cuts.separating_pairs.list_separating_pair.Goals as goal

pub returns-in-Some : goal.returns-in-Some
returns-in-Some c =
    let found = rw c.in-Some.is at c.in_ok-v.ensures in
    least_pair c.args.lists.now c.loop-u.u c.in-Some.v c.loop-u.invariant found

pub loop-u-preserved : goal.loop-u-preserved
loop-u-preserved c = λ a b below pair.
    let none = rw c.in-None.is at c.in_ok-v.ensures in
    elim (cases_eq a c.loop-u.u) [
      | inl e ↦ none b (subst (λ x. IsSeparatingPair c.args.lists.now x b) e pair)
      | inr ne ↦ c.loop-u.invariant a b (omega arith) pair
    ]

pub returns : goal.returns
returns c = λ u v pair.
    let l = pair.1 in
    let m = pair.0 in
    c.loop-u.invariant u v (omega (arith, c.loop-u-test.false)) pair
