-- An entry is pushed, and taken back or not.
use Rattle.std.proofs.Common.{◌≡◌, ◌&&◌, ℕ, ◌+◌, ◌-◌, ◌<◌, ◌≤◌, Bool, true, false, not, cond, List, [], ◌∷◌, ◌++◌, length, get_or, take, filter, Contains, All, refl, sym, ap, ap₂, subst, ◌∙◌, inl, inr, arith}
use Rattle.std.proofs.Math.Seq.{take-append_seam, take-length}
use Rattle.std.proofs.lemmas.Bool.{cases_lt}
use Rattle.std.proofs.lemmas.List.{length-append, append-nil, take_more}
use Rattle.std.proofs.lemmas.List.Elements.{Contains-append_left, Contains-append_right, All-push, filter-append}
use Rattle.map_theory.proofs.EntryLemmas.{Contains-here}

module _ (old mid new : List ℕ) (u j : ℕ) (push : mid ≡ old ++ u ∷ []) (cut : new ≡ take j mid) where
  kept_push : j ≡ length mid → new ≡ old ++ u ∷ []
  kept_push e = cut ∙ ap (λ (i : ℕ). take i mid) e ∙ take-length mid ∙ push

  taken_back : j + 1 ≡ length mid → new ≡ old
  taken_back e =
      let n : j ≡ length old = omega (arith, e, ap length push, length-append old (u ∷ [])) in
      cut ∙ ap₂ take n push ∙ take-append_seam old (u ∷ [])

  module _ (n : ℕ) (few : n ≤ 1) (j_is : j ≡ length mid + n - 1) where
    long : 0 < length mid
    long = omega (arith, ap length push, length-append old (u ∷ []))

    -- what was there stays
    pub push-kept : (w : ℕ) → Contains old w → Contains new w
    push-kept w has =
        elim (cases_lt n 1) [
          | inl none ↦ subst (λ (us : List ℕ). Contains us w) (sym (taken_back (omega (arith, none, j_is, long)))) has
          | inr some ↦ subst (λ (us : List ℕ). Contains us w) (sym (kept_push (omega (arith, some, few, j_is, long)))) (Contains-append_left old (u ∷ []) w has)
        ]

    pub push-within : (m : ℕ) → u < m → All (λ w. w < m) old → All (λ w. w < m) new
    push-within m l all =
        elim (cases_lt n 1) [
          | inl none ↦ subst (λ (us : List ℕ). All (λ w. w < m) us) (sym (taken_back (omega (arith, none, j_is, long)))) all
          | inr some ↦ subst (λ (us : List ℕ). All (λ w. w < m) us) (sym (kept_push (omega (arith, some, few, j_is, long)))) (All-push (λ (w : ℕ). w < m) old u all l)
        ]

    -- the entry stays where n is one
    pub push-here : n ≡ 1 → Contains new u
    push-here some = subst (λ (us : List ℕ). Contains us u) (sym (kept_push (omega (arith, some, j_is, long)))) (Contains-append_right old (u ∷ []) u (Contains-here u []))

  -- it stays where neither of two tests is true
  pub push-unless : (m g : Bool) (x : ℕ) → (m ≡ false → g ≡ false → x ≡ 0) → (m ≡ true → x ≡ 1) → (g ≡ true → x ≡ 1) → j ≡ length mid - x → 0 < length mid → new ≡ old ++ cond (not m && not g) (u ∷ []) []
  push-unless true g x none one other j_is long = taken_back (omega (arith, one refl, j_is, long)) ∙ sym (append-nil old)
  push-unless false true x none one other j_is long = taken_back (omega (arith, other refl, j_is, long)) ∙ sym (append-nil old)
  push-unless false false x none one other j_is long = kept_push (omega (arith, none refl refl, j_is, long))

-- what passes among one entry more of a list, and among all
pub gathered-more : (p : ℕ → Bool) (us : List ℕ) (i : ℕ) → i < length us → (old new : List ℕ) → old ≡ filter p (take i us) → new ≡ old ++ filter p (get_or us i 0 ∷ []) → new ≡ filter p (take (i + 1) us)
gathered-more p us i l old new is more =
    more ∙ ap (λ (xs : List ℕ). xs ++ filter p (get_or us i 0 ∷ [])) is ∙ sym (ap (filter p) (take_more us i 0 l) ∙ filter-append p (take i us) (get_or us i 0 ∷ []))

pub gathered-all : (p : ℕ → Bool) (us : List ℕ) (i : ℕ) → i ≡ length us → (xs : List ℕ) → xs ≡ filter p (take i us) → xs ≡ filter p us
gathered-all p us i all xs is = is ∙ ap (filter p) (ap (λ (k : ℕ). take k us) all ∙ take-length us)
