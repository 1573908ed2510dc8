-- Lists without repeats, read from another of their entries.
use Rattle.std.proofs.Common.{◌≡◌, ◌≢◌, ℕ, ◌-◌, ◌<◌, List, ◌++◌, length, get_or, AllPairs, Contains, refl, sym, ap, ◌∙◌, subst, inl, inr, arith}
use Rattle.std.proofs.lemmas.List.Elements.{Contains-append_cases, Contains-append_left, Contains-append_right}
use Rattle.map_theory.specs.Maps.{HasDart, follows, entry_after}
use Rattle.map_theory.proofs.DartLemmas.{Contains-entry_after}
use Rattle.map_theory.proofs.EntryLemmas.{AllPairs-append, AllPairs-left, AllPairs-right, parts_apart}
use Rattle.plane_peeling.proofs.Rings.{Leads-part, Leads-join, leads_round, ends_with, round-entry}
use Rattle.map_lists.specs.Lists.{Lists}
use Rattle.embed_surgery.proofs.Holes.{IsRing}

pub Contains-turned : (us vs : List ℕ) (x : ℕ) → Contains (us ++ vs) x → Contains (vs ++ us) x
Contains-turned us vs x c =
    elim (Contains-append_cases us vs x c) [
      | inl h ↦ Contains-append_right vs us x h
      | inr h ↦ Contains-append_left vs us x h
    ]

pub AllPairs-turned : (us vs : List ℕ) → AllPairs ◌≢◌ (us ++ vs) → AllPairs ◌≢◌ (vs ++ us)
AllPairs-turned us vs h = AllPairs-append vs us (AllPairs-right us vs h) (AllPairs-left us vs h) (λ u one other. parts_apart us vs h u other one)

-- what comes after an entry stays
pub entry_after-turned : (us vs : List ℕ) → AllPairs ◌≢◌ (us ++ vs) → (x : ℕ) → Contains (us ++ vs) x → entry_after x (vs ++ us) ≡ entry_after x (us ++ vs)
entry_after-turned us vs distinct x c =
    let ws = us ++ vs in
    let next : ℕ → ℕ = λ p. entry_after p ws in
    let t = get_or ws (length ws - 1) 0 in
    let end = ends_with ws t 0 (let l = c.1 in omega arith) refl in
    let parts = Leads-part next t us vs t (leads_round ws t distinct end.0 end.1) in
    round-entry next (vs ++ us) parts.0 (AllPairs-turned us vs distinct) (Leads-join next parts.0 vs t us parts.0 parts.2 parts.1) x (Contains-turned us vs x c)

-- A ring may be read from another of its entries.
pub ring_turned : (lists : Lists) (us vs : List ℕ) → IsRing lists (us ++ vs) → IsRing lists (vs ++ us)
ring_turned lists us vs ring =
    let same = entry_after-turned us vs ring.distinct in
    let old : (x : ℕ) → Contains (vs ++ us) x → Contains (us ++ vs) x = Contains-turned vs us in
    record {
      distinct = AllPairs-turned us vs ring.distinct;
      darts = λ x c. subst (HasDart lists x) (sym (same x (old x c))) (ring.darts x (old x c));
      turns = λ x c.
          let c' = old x c in
          let on = Contains-entry_after x (us ++ vs) c' in
          let e = same x c' in
          ap (λ y. follows lists y x) e ∙ (ring.turns x c' ∙ (sym (same (entry_after x (us ++ vs)) on) ∙ ap (λ y. entry_after y (vs ++ us)) (sym e)));
    }
