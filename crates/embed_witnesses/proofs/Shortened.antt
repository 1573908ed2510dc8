-- A frame with a path one step shorter: the first vertex inside of the path is passed over.
use Rattle.std.proofs.Common.{◌≡◌, ◌≢◌, ◌⊎◌, ℕ, suc, ◌-◌, ◌<◌, ◌≤◌, cond, eqb, refl, sym, ap, ◌∙◌, subst, inl, inr, arith}
use Rattle.std.proofs.lemmas.Bool.{cases_eq, cases_order, eq-eqb, ne_eqb, cond-true, cond-false}
use Rattle.kuratowski.specs.Witnesses.{branch_count, pair_at}
use Rattle.kuratowski.specs.declared.witness.Kind.{Kind}
use Rattle.embed_contraction.specs.Traces.{path_count}
use Rattle.embed_contraction.proofs.Traces.{pairs_within}
use Rattle.embed_contraction.proofs.Frames.{IsFrame}

module _ (n : ℕ) (kind : Kind) (branch size : ℕ → ℕ) (way : ℕ → ℕ → ℕ) (frame : IsFrame n kind branch size way) (q : ℕ) (in_q : q < path_count kind) (more : 1 < size q) where
  -- the place in the old path
  unfoldable pub place : ℕ → ℕ → ℕ
  place p i = cond (eqb p q) (cond (eqb i 0) 0 (suc i)) i

  unfoldable pub size' : ℕ → ℕ
  size' p = cond (eqb p q) (size p - 1) (size p)

  abbrev pub way' : ℕ → ℕ → ℕ
  way' p i = way p (place p i)

  pub place-begin : (p : ℕ) → place p 0 ≡ 0
  unfolding place
  place-begin p =
      elim (cases_eq p q) [
        | inl e ↦ cond-true (eqb p q) 0 0 (eq-eqb p q e)
        | inr ne ↦ cond-false (eqb p q) 0 0 (ne_eqb p q ne)
      ]

  pub place-here : (i : ℕ) → 0 < i → place q i ≡ suc i
  unfolding place
  place-here i pos = cond-true (eqb q q) (cond (eqb i 0) 0 (suc i)) i (eq-eqb q q refl) ∙ cond-false (eqb i 0) 0 (suc i) (ne_eqb i 0 (λ e. omega arith))

  pub place-else : (p i : ℕ) → p ≢ q → place p i ≡ i
  unfolding place
  place-else p i ne = cond-false (eqb p q) (cond (eqb i 0) 0 (suc i)) i (ne_eqb p q ne)

  size-here : size' q ≡ size q - 1
  unfolding size'
  size-here = cond-true (eqb q q) (size q - 1) (size q) (eq-eqb q q refl)

  size-else : (p : ℕ) → p ≢ q → size' p ≡ size p
  unfolding size'
  size-else p ne = cond-false (eqb p q) (size p - 1) (size p) (ne_eqb p q ne)

  -- A place is the first of its path, or moved on by one in the path that is shorter, or where it was.
  pub cases_place : (p i : ℕ) → ((p ≡ q) × (i ≡ 0) × (place p i ≡ 0) × (size p ≡ suc (size' p))) ⊎ (((p ≡ q) × (0 < i) × (place p i ≡ suc i) × (size p ≡ suc (size' p))) ⊎ ((p ≢ q) × (place p i ≡ i) × (size p ≡ size' p)))
  cases_place p i =
      elim (cases_eq p q) [
        | inr ne ↦ inr (inr (ne, place-else p i ne, sym (size-else p ne)))
        | inl e ↦
            let t : size q ≡ suc (size' q) = omega (arith, size-here) in
            let u : size p ≡ suc (size' p) = subst (λ r. size r ≡ suc (size' r)) (sym e) t in
            elim (cases_eq i 0) [
              | inl z ↦ inl (e, z, ap (place p) z ∙ place-begin p, u)
              | inr nz ↦ inr (inl (e, omega arith, ap (λ r. place r i) e ∙ place-here i (omega arith), u))
            ]
      ]

  -- inner places stay inside
  inner : (p i : ℕ) → 0 < i → i < size' p → (0 < place p i) × (place p i < size p)
  inner p i pos l =
      elim (cases_place p i) [
        | inl h ↦ let z = h.1 in absurd (omega arith)
        | inr r ↦ elim r [ inl h ↦ let e = h.2 in let s = h.3 in (omega arith, omega arith) | inr h ↦ let e = h.1 in let s = h.2 in (omega arith, omega arith) ]
      ]

  -- places stay within
  pub within : (p i : ℕ) → i ≤ size' p → place p i ≤ size p
  within p i l =
      elim (cases_place p i) [
        | inl h ↦ let e = h.2 in omega arith
        | inr r ↦ elim r [ inl h ↦ let e = h.2 in let s = h.3 in omega arith | inr h ↦ let e = h.1 in let s = h.2 in omega arith ]
      ]

  -- places of one path stay apart
  place-apart : (p i j : ℕ) → place p i ≡ place p j → i ≡ j
  place-apart p i j e = grind (arith, cases_place)

  place-end : (p : ℕ) → 0 < size' p → place p (size' p) ≡ size p
  place-end p pos =
      elim (cases_place p (size' p)) [
        | inl h ↦ let z = h.1 in absurd (omega arith)
        | inr r ↦ elim r [ inl h ↦ h.2 ∙ sym h.3 | inr h ↦ h.1 ∙ sym h.2 ]
      ]

  long : (p : ℕ) → p < path_count kind → 0 < size' p
  long p l =
      elim (cases_eq p q) [
        | inl e ↦ let s = size-here in subst (λ r. 0 < size' r) (sym e) (omega arith)
        | inr ne ↦ let s = size-else p ne in let f = frame.long p l in omega arith
      ]

  pub frame' : IsFrame n kind branch size' way'
  frame' = grind (arith, long, place-begin, place-end, inner, place-apart, within)

  -- the vertex that is passed over
  abbrev pub gone : ℕ
  gone = way q 1

  pub gone_branch : (j : ℕ) → j < branch_count kind → branch j ≢ gone
  gone_branch j l e = frame.no_branch q 1 j in_q (omega arith) more l (sym e)

  -- it stands nowhere in the new frame
  pub gone_off : (p i : ℕ) → p < path_count kind → i ≤ size' p → way' p i ≢ gone
  gone_off p i l m e = grind (arith, cases_order, gone_branch, pair_at, pairs_within, cases_eq, within, cases_place)

  -- A step of the new frame is one of the old, or the first of the path that is shorter.
  pub cases_step : (p i : ℕ) → i < size' p → ((place p (suc i) ≡ suc (place p i)) × (place p i < size p)) ⊎ ((p ≡ q) × (place p i ≡ 0) × (place p (suc i) ≡ 2))
  cases_step p i l = grind (arith, cases_place, place-else)
