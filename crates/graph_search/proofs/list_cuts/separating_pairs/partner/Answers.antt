use Rattle.std.proofs.Common.{◌<◌, ◌≤◌, ℕ, Bool, false, List, sym, subst, inl, inr, arith}
use Rattle.std.proofs.lemmas.Bool.{cases_eq, cases_lt}
use Rattle.map_lists.specs.Lists.{Lists}
use Rattle.graph_search.specs.Cuts.{IsSeparatingPair}
use Rattle.graph_search.specs.Flags.{AreCutFlags}
use Rattle.graph_search.proofs.PartnerLemmas.{cut_partners, is_partner-read, no_partner, least_partner}
use Rattle.graph_search.proofs.list_cuts.separating_pairs.partner.Goals as goal

-- a partner of u is the least, where no vertex before it is one
least : (lists : Lists) (u v : ℕ) → ((w : ℕ) → w < v → ¬ IsSeparatingPair lists u w) → IsSeparatingPair lists u v → IsSeparatingPair lists u v × ((w : ℕ) → IsSeparatingPair lists u w → v ≤ w)
least lists u v before pair = (pair, λ w other. elim (cases_lt w v) [ inl less ↦ absurd (before w less other) | inr le ↦ le ])

pub returns-then-flags-v : goal.returns-then-flags-v
returns-then-flags-v c =
    least c.args.lists.now c.args.u c.loop-v.v c.loop-v.invariant (cut_partners c.args.lists.now c.requires.adjacency c.args.flags.now c.requires.flags c.args.u c.loop-v.v (omega (arith, c.loop-v.auto.v)) (omega (arith, c.loop-v-test.true, c.len-v-end.ensures.is)) c.if-flags-u.true c.if-flags-v.true)

pub returns-then-index : goal.returns-then-index
returns-then-index c =
    let told = is_partner-read c.args.lists.now c.requires.adjacency c.args.flags.now c.requires.flags c.in_ok-cuts.ensures.cuts.0 c.in_ok-cuts.cuts.items c.in_ok-cuts.ensures.cuts.2 c.args.u c.loop-v.v c.index.result.now c.in_ok-cuts.ensures.cuts.1 (omega (arith, c.loop-v.auto.v)) (omega (arith, c.loop-v-test.true, c.len-v-end.ensures.is)) c.if-flags-v.false c.index.ensures in
    least c.args.lists.now c.args.u c.loop-v.v c.loop-v.invariant (rw c.if-index.true at told)

pub loop-v-preserved : goal.loop-v-preserved
loop-v-preserved c = λ w below pair.
    let told = is_partner-read c.args.lists.now c.requires.adjacency c.args.flags.now c.requires.flags c.in_ok-cuts.ensures.cuts.0 c.in_ok-cuts.cuts.items c.in_ok-cuts.ensures.cuts.2 c.args.u c.loop-v.v c.index.result.now c.in_ok-cuts.ensures.cuts.1 (omega (arith, c.loop-v.auto.v)) (omega (arith, c.loop-v-test.true, c.len-v-end.ensures.is)) c.if-flags-v.false c.index.ensures in
    let none = rw c.if-index.false at told in
    elim (cases_eq w c.loop-v.v) [
      | inl e ↦ none (subst (λ x. IsSeparatingPair c.args.lists.now c.args.u x) e pair)
      | inr ne ↦ c.loop-v.invariant w (omega arith) pair
    ]

pub returns-then-flags-u : goal.returns-then-flags-u
returns-then-flags-u c = λ v pair. c.loop-v.invariant v (omega (arith, pair.1, c.loop-v-test.false)) pair

pub returns-in-Some : goal.returns-in-Some
returns-in-Some c =
    let cuts = subst (λ (xs : List Bool). AreCutFlags c.in_ok-cuts-2.ensures.cuts.0 xs) (sym c.deref.ensures.value) c.in_ok-cuts-2.ensures.cuts.2 in
    least_partner c.args.lists.now c.requires.adjacency c.args.flags.now c.requires.flags c.in_ok-cuts-2.ensures.cuts.0 c.deref.result.now cuts c.args.u c.in_ok-cuts-2.ensures.cuts.1 c.requires.vertex c.if-flags-u.false c.in-Some.v c.in-Some.ensures.none.0 c.in-Some.ensures.none.1 c.in-Some.ensures.none.2 c.in-Some.ensures.none.3

pub returns : goal.returns
returns c =
    let cuts = subst (λ (xs : List Bool). AreCutFlags c.in_ok-cuts-2.ensures.cuts.0 xs) (sym c.deref.ensures.value) c.in_ok-cuts-2.ensures.cuts.2 in
    no_partner c.args.lists.now c.requires.adjacency c.args.flags.now c.requires.flags c.in_ok-cuts-2.ensures.cuts.0 c.deref.result.now cuts c.args.u c.in_ok-cuts-2.ensures.cuts.1 c.requires.vertex c.if-flags-u.false c.in-None.ensures.none
