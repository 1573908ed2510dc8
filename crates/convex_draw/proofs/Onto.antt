-- A map of the numbers below n to themselves that takes none twice takes all.
use Rattle.std.proofs.Common.{◌≡◌, ◌≢◌, ◌⊎◌, ℕ, zero, suc, ◌<◌, eqb, if◌then◌else◌, sym, ap, ◌∙◌, inl, inr, arith, eq-eqb, ne_eqb}
use Rattle.std.proofs.lemmas.Bool.{cases_lt, cases_eq, cond-true, cond-false}

-- the value of a map with one other value where a test holds
changed-here : (x m a : ℕ) → x ≡ m → (if eqb x m then a else x) ≡ a
changed-here x m a e = cond-true (eqb x m) a x (eq-eqb x m e)

changed-else : (x m a : ℕ) → x ≢ m → (if eqb x m then a else x) ≡ x
changed-else x m a ne = cond-false (eqb x m) a x (ne_eqb x m ne)

none_into : (m : ℕ) (f : ℕ → ℕ) → ((r : ℕ) → r < suc m → f r < m) → ((r q : ℕ) → r < q → q < suc m → f r ≢ f q) → ⊥
none_into zero f below apart = let h = below 0 (omega arith) in absurd (omega arith)
none_into (suc m) f below apart =
    let a = f (suc m) in
    let bound = below (suc m) (omega arith) in
    none_into m (λ r. if eqb (f r) m then a else f r)
    (λ r l. let b = below r (omega arith) in elim (cases_eq (f r) m) [ inl e ↦ (let d = apart r (suc m) (omega arith) (omega arith) in let k : a ≢ m = λ k. d (e ∙ sym k) in omega (arith, changed-here (f r) m a e, k)) | inr ne ↦ omega (arith, changed-else (f r) m a ne) ])
    (λ r q l k same. elim (cases_eq (f r) m) [
      | inl e ↦ elim (cases_eq (f q) m) [
        | inl e' ↦ apart r q l (omega arith) (e ∙ sym e')
        | inr ne' ↦ apart q (suc m) (omega arith) (omega arith) (sym (changed-else (f q) m a ne') ∙ sym same ∙ changed-here (f r) m a e)
      ]
      | inr ne ↦ elim (cases_eq (f q) m) [
        | inl e' ↦ apart r (suc m) (omega arith) (omega arith) (sym (changed-else (f r) m a ne) ∙ same ∙ changed-here (f q) m a e')
        | inr ne' ↦ apart r q l (omega arith) (sym (changed-else (f r) m a ne) ∙ same ∙ changed-else (f q) m a ne')
      ]
    ])

-- v is a value below k
pub record IsValue (f : ℕ → ℕ) (v k : ℕ) : Type 0 where
  pub at : ℕ
  pub within : at < k
  pub is : f at ≡ v

cases_value : (f : ℕ → ℕ) (v k : ℕ) → IsValue f v k ⊎ ((r : ℕ) → r < k → f r ≢ v)
cases_value f v zero = inr (λ r l. absurd (omega arith))
cases_value f v (suc k) = elim (cases_value f v k) [
  | inl h ↦ let l = h.within in inl record { at = h.at; within = omega arith; is = h.is }
  | inr none ↦ elim (cases_eq (f k) v) [
    | inl e ↦ inl record { at = k; within = omega arith; is = e }
    | inr ne ↦ inr (λ r l e. elim (cases_lt r k) [ inl a ↦ none r a e | inr a ↦ (let d : k ≡ r = omega arith in ne (ap f d ∙ e)) ])
  ]
]

pub onto : (f : ℕ → ℕ) (n v : ℕ) → ((r : ℕ) → r < n → f r < n) → ((r q : ℕ) → r < n → q < n → f r ≡ f q → r ≡ q) → v < n → IsValue f v n
onto f n v below one l = elim (cases_value f v n) [
  | inl h ↦ h
  | inr none ↦ absurd (none_into n (λ r. if eqb r n then v else f r)
      (λ r k. elim (cases_eq r n) [ inl e ↦ omega (arith, cond-true (eqb r n) v (f r) (eq-eqb r n e)) | inr ne ↦ (let b = below r (omega arith) in omega (arith, cond-false (eqb r n) v (f r) (ne_eqb r n ne))) ])
      (λ r q a b same.
      let low = cond-false (eqb r n) v (f r) (ne_eqb r n (λ e. omega arith)) in
      elim (cases_eq q n) [
        | inl e ↦ none r (omega arith) (sym low ∙ same ∙ cond-true (eqb q n) v (f q) (eq-eqb q n e))
        | inr ne ↦ let d = one r q (omega arith) (omega arith) (sym low ∙ same ∙ cond-false (eqb q n) v (f q) (ne_eqb q n ne)) in absurd (omega arith)
      ]))
]
