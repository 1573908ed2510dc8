-- Two entries of a list that pass a test.
use Rattle.std.proofs.Common.{◌≡◌, ◌≢◌, ℕ, ◌+◌, ◌≤◌, Bool, true, cond, eqb, List, [], ◌∷◌, count_by, AllPairs, Contains, sym, ap, ◌∙◌, subst, inl, inr, arith, eq-eqb, ne_eqb}
use Rattle.std.proofs.lemmas.Bool.{cases_eq, cases_Bool}
use Rattle.std.proofs.lemmas.List.Sums.{sum_by-cons}
use Rattle.map_theory.proofs.EntryLemmas.{Contains-here, Contains-there, AllPairs-tail, head_apart, count_of, Contains-counted}

-- some entry passes
one_passes : (p : ℕ → Bool) (us : List ℕ) → 1 ≤ count_by p us → (a : ℕ) × Contains us a × (p a ≡ true)
one_passes p [] l = absurd (omega (arith, l))
one_passes p (x ∷ us) l =
    elim (cases_Bool (p x)) [
      | inl e ↦ (x, Contains-here x us, e)
      | inr e ↦
          let rest = one_passes p us (omega (arith, l, sum_by-cons (λ u. cond (p u) 1 0) x us, ap {B = ℕ} (λ b. cond b 1 0) e)) in
          (rest.0, Contains-there x us rest.0 rest.1, rest.2)
    ]

-- two entries of a list without repeats pass
pub two_pass : (p : ℕ → Bool) (us : List ℕ) → AllPairs ◌≢◌ us → 2 ≤ count_by p us → (a : ℕ) × (b : ℕ) × (a ≢ b) × Contains us a × Contains us b × (p a ≡ true) × (p b ≡ true)
two_pass p [] distinct l = absurd (omega (arith, l))
two_pass p (x ∷ us) distinct l =
    let sum = sum_by-cons (λ u. cond (p u) 1 0) x us in
    elim (cases_Bool (p x)) [
      | inl e ↦
          let rest = one_passes p us (omega (arith, l, sum, ap {B = ℕ} (λ b. cond b 1 0) e)) in
          (x, rest.0, (λ q. head_apart x us distinct (subst (Contains us) (sym q) rest.1)), Contains-here x us, Contains-there x us rest.0 rest.1, e, rest.2)
      | inr e ↦
          let rest = two_pass p us (AllPairs-tail x us distinct) (omega (arith, l, sum, ap {B = ℕ} (λ b. cond b 1 0) e)) in
          (rest.0, rest.1, rest.2, Contains-there x us rest.0 rest.3, Contains-there x us rest.1 rest.4, rest.5, rest.6)
    ]

-- and where two pass, they are counted
pub two_counted : (p : ℕ → Bool) (us : List ℕ) (a b : ℕ) → a ≢ b → Contains us a → Contains us b → p a ≡ true → p b ≡ true → 2 ≤ count_by p us
two_counted p us a b ne c c' e e' =
    omega (arith, at_least us, Contains-counted a us c, Contains-counted b us c')
  where
    here : (x : ℕ) → cond (eqb x a) 1 0 + cond (eqb x b) 1 0 ≤ cond (p x) 1 0
    here x = grind (arith, cases_eq, cond, eq-eqb, ne_eqb)

    at_least : (us : List ℕ) → count_of a us + count_of b us ≤ count_by p us
    at_least [] = omega arith
    at_least (x ∷ us) = omega (arith, at_least us, here x, sum_by-cons (λ u. cond (p u) 1 0) x us, sum_by-cons (λ u. cond (eqb u a) 1 0) x us, sum_by-cons (λ u. cond (eqb u b) 1 0) x us)
