-- A vertex put into one step of a path.
use Rattle.std.proofs.Common.{◌≡◌, ◌≢◌, ◌⊎◌, ℕ, suc, ◌-◌, ◌<◌, ◌≤◌, cond, eqb, ltb, refl, sym, ap, ap₂, ◌∙◌, subst, inl, inr, arith, lt-ltb, le-ltb}
use Rattle.std.proofs.lemmas.Bool.{cases_eq, cases_lt, cases_order, eq-eqb, ne_eqb, cond-true, cond-false}
use Rattle.kuratowski.specs.Witnesses.{branch_count}
use Rattle.kuratowski.specs.declared.witness.Kind.{Kind}
use Rattle.embed_contraction.specs.Traces.{path_count}
use Rattle.embed_contraction.proofs.Frames.{IsFrame, HasSteps}

module _ (n : ℕ) (kind : Kind) (branch size : ℕ → ℕ) (way : ℕ → ℕ → ℕ) (frame : IsFrame n kind branch size way) (o q k : ℕ) (in_q : q < path_count kind) (in_k : k < size q) (off : (p i : ℕ) → p < path_count kind → i ≤ size p → way p i ≢ o) (no_branch : (j : ℕ) → j < branch_count kind → branch j ≢ o) where
  unfoldable pub size' : ℕ → ℕ
  size' p = cond (eqb p q) (suc (size p)) (size p)

  -- the path that gets the vertex
  unfoldable pub longer : ℕ → ℕ
  longer i = cond (ltb k i) (cond (eqb i (suc k)) o (way q (i - 1))) (way q i)

  unfoldable pub way' : ℕ → ℕ → ℕ
  way' p i = cond (eqb p q) (longer i) (way p i)

  size_here : size' q ≡ suc (size q)
  unfolding size'
  size_here = cond-true (eqb q q) (suc (size q)) (size q) (eq-eqb q q refl)

  size_else : (p : ℕ) → p ≢ q → size' p ≡ size p
  unfolding size'
  size_else p ne = cond-false (eqb p q) (suc (size p)) (size p) (ne_eqb p q ne)

  way_here : (i : ℕ) → way' q i ≡ longer i
  unfolding way'
  way_here i = cond-true (eqb q q) (longer i) (way q i) (eq-eqb q q refl)

  way_else : (p i : ℕ) → p ≢ q → way' p i ≡ way p i
  unfolding way'
  way_else p i ne = cond-false (eqb p q) (longer i) (way p i) (ne_eqb p q ne)

  longer_low : (i : ℕ) → i ≤ k → way' q i ≡ way q i
  unfolding longer
  longer_low i l = way_here i ∙ cond-false (ltb k i) (cond (eqb i (suc k)) o (way q (i - 1))) (way q i) (le-ltb k i l)

  longer_mid : (i : ℕ) → i ≡ suc k → way' q i ≡ o
  unfolding longer
  longer_mid i e = way_here i ∙ (cond-true (ltb k i) (cond (eqb i (suc k)) o (way q (i - 1))) (way q i) (lt-ltb k i (omega arith)) ∙ cond-true (eqb i (suc k)) o (way q (i - 1)) (eq-eqb i (suc k) e))

  longer_high : (i : ℕ) → k < i → way' q (suc i) ≡ way q i
  unfolding longer
  longer_high i l =
      let e : suc i - 1 ≡ i = omega arith in
      way_here (suc i) ∙ (cond-true (ltb k (suc i)) (cond (eqb (suc i) (suc k)) o (way q (suc i - 1))) (way q (suc i)) (lt-ltb k (suc i) (omega arith)) ∙ (cond-false (eqb (suc i) (suc k)) o (way q (suc i - 1)) (ne_eqb (suc i) (suc k) (λ e. omega arith)) ∙ ap (way q) e))

  -- A place of a path is that of an old vertex, or of the new one.
  pub record IsOld (p i j : ℕ) : Type 0 where
    pub vertex : way' p i ≡ way p j
    pub place : ((p ≡ q → i ≤ k) × (i ≡ j)) ⊎ ((p ≡ q) × (k < j) × (i ≡ suc j))

  old_or_new : (p i : ℕ) → p < path_count kind → ((j : ℕ) × IsOld p i j) ⊎ ((p ≡ q) × (i ≡ suc k) × (way' p i ≡ o))
  old_or_new p i l =
      elim (cases_eq p q) [
        | inr ne ↦ inl (i, record { vertex = way_else p i ne; place = inl ((λ e. absurd (ne e)), refl) })
        | inl e ↦ elim (cases_lt k i) [
          | inr low ↦ inl (i, record { vertex = ap (λ r. way' r i) e ∙ (longer_low i low ∙ ap (λ r. way r i) (sym e)); place = inl ((λ _. low), refl) })
          | inl high ↦ elim (cases_eq i (suc k)) [
            | inl m ↦ inr (e, m, ap (λ r. way' r i) e ∙ longer_mid i m)
            | inr nm ↦
                let j = i - 1 in
                let s : i ≡ suc j = omega arith in
                inl (j, record { vertex = ap₂ (λ r t. way' r t) e s ∙ (longer_high j (omega arith) ∙ ap (λ r. way r j) (sym e)); place = inr (e, omega arith, s) })
          ]
        ]
      ]

  -- an inner place of the new path is one of the old
  old_inner : (p i j : ℕ) → p < path_count kind → IsOld p i j → 0 < i → i < size' p → (0 < j) × (j < size p)
  old_inner p i j l old pos m = grind (arith, cases_eq, size_here, size_else)

  old_end : (p i j : ℕ) → p < path_count kind → IsOld p i j → i ≤ size' p → j ≤ size p
  old_end p i j l old m = grind (arith, cases_eq, size_here, size_else)

  -- a vertex that is neither on the old paths nor the new one
  pub way_off : (z : ℕ) → z ≢ o → ((p i : ℕ) → p < path_count kind → i ≤ size p → way p i ≢ z) → (p i : ℕ) → p < path_count kind → i ≤ size' p → way' p i ≢ z
  way_off z n old p i l m e =
      elim (old_or_new p i l) [
        | inl r ↦ old p r.0 l (old_end p i r.0 l r.1 m) (sym r.1.vertex ∙ e)
        | inr r ↦ n (sym e ∙ r.2)
      ]

  -- one old place comes of one new
  same_old : (p i i' j : ℕ) → IsOld p i j → IsOld p i' j → i ≡ i'
  same_old p i i' j a b = grind arith

  pub inserted : IsFrame n kind branch size' way'
  inserted = record {
    vertices = frame.vertices;
    distinct = frame.distinct;
    long = λ p l. elim (cases_eq p q) [
      | inl e ↦ let s = size_here in subst (λ r. 0 < size' r) (sym e) (omega arith)
      | inr ne ↦ let s = size_else p ne in let g = frame.long p l in omega arith
    ];
    start = λ p l. elim (cases_eq p q) [
      | inl e ↦ ap (λ r. way' r 0) e ∙ (longer_low 0 (omega arith) ∙ (ap (λ r. way r 0) (sym e) ∙ frame.start p l))
      | inr ne ↦ way_else p 0 ne ∙ frame.start p l
    ];
    end = λ p l. elim (cases_eq p q) [
      | inl e ↦ ap (λ r. way' r (size' r)) e ∙ (ap (way' q) size_here ∙ (longer_high (size q) in_k ∙ (ap (λ r. way r (size r)) (sym e) ∙ frame.end p l)))
      | inr ne ↦ way_else p (size' p) ne ∙ (ap (way p) (size_else p ne) ∙ frame.end p l)
    ];
    no_branch = λ p i j l pos m in_j e. elim (old_or_new p i l) [
      | inl r ↦ let inner = old_inner p i r.0 l r.1 pos m in frame.no_branch p r.0 j l inner.0 inner.1 in_j (sym r.1.vertex ∙ e)
      | inr r ↦ no_branch j in_j (sym e ∙ r.2)
    ];
    once = λ p i i' l pos m m' e. elim (old_or_new p i l) [
      | inl r ↦
          grind (arith, old_or_new, old_end, same_old)
      | inr r ↦ grind (arith, old_or_new, old_end)
    ];
    apart = λ p p' i i' l l' pos m pos' m' e. elim (old_or_new p i l) [
      | inl r ↦
          let inner = old_inner p i r.0 l r.1 pos m in
          elim (old_or_new p' i' l') [
            | inl r' ↦
                let inner' = old_inner p' i' r'.0 l' r'.1 pos' m' in
                frame.apart p p' r.0 r'.0 l l' inner.0 inner.1 inner'.0 inner'.1 (sym r.1.vertex ∙ (e ∙ r'.1.vertex))
            | inr r' ↦ let ll = inner.1 in absurd (off p r.0 l (omega arith) (sym r.1.vertex ∙ (e ∙ r'.2)))
          ]
      | inr r ↦ elim (old_or_new p' i' l') [
        | inl r' ↦
            absurd (off p' r'.0 l' (omega (arith, old_inner p' i' r'.0 l' r'.1 pos' m')) (sym r'.1.vertex ∙ (sym e ∙ r.2)))
        | inr r' ↦ r.0 ∙ sym r'.0
      ]
    ];
  }

  -- the steps that are left, and the two by the vertex
  pub steps-inserted : (P : ℕ → ℕ → Type 0) → ((p i : ℕ) → p < path_count kind → i < size p → ((p ≡ q) × (i ≡ k) → ⊥) → P (way p i) (way p (suc i))) → P (way q k) o → P o (way q (suc k)) → HasSteps kind size' way' P
  steps-inserted P rest to from p i l m =
      elim (cases_eq p q) [
        | inr ne ↦
            let step = rest p i l (omega (arith, size_else p ne)) (λ h. ne h.0) in
            subst (λ a. P a (way' p (suc i))) (sym (way_else p i ne)) (subst (P (way p i)) (sym (way_else p (suc i) ne)) step)
        | inl e ↦
            let s = size_here in
            let m' : i < size' q = subst (λ r. i < size' r) e m in
            subst (λ r. P (way' r i) (way' r (suc i))) (sym e) (elim (cases_order i k) [
              | inl here ↦ two (way q k) o (longer_low i (omega arith) ∙ ap (way q) here) (longer_mid (suc i) (ap suc here)) to
              | inr r ↦ elim r [
                | inl low ↦ two (way q i) (way q (suc i)) (longer_low i (omega arith)) (longer_low (suc i) (omega arith)) (rest q i in_q (omega arith) (λ h. let x = h.1 in omega arith))
                | inr high ↦ elim (cases_eq i (suc k)) [
                  | inl mid ↦ two o (way q (suc k)) (longer_mid i mid) (ap (λ t. way' q (suc t)) mid ∙ longer_high (suc k) (omega arith)) from
                  | inr far ↦
                      let j = i - 1 in
                      let t : i ≡ suc j = omega arith in
                      two (way q j) (way q (suc j)) (ap (way' q) t ∙ longer_high j (omega arith)) (longer_high i (omega arith) ∙ ap (way q) t) (rest q j in_q (omega arith) (λ h. let x = h.1 in omega arith))
                ]
              ]
            ])
      ]
    where
      two : (a b : ℕ) → way' q i ≡ a → way' q (suc i) ≡ b → P a b → P (way' q i) (way' q (suc i))
      two a b ea eb h = subst (λ c. P c (way' q (suc i))) (sym ea) (subst (P a) (sym eb) h)
