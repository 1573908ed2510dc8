-- Slots that are made for their places, where one of them is written.
use Rattle.std.proofs.Common.{◌≡◌, ◌≢◌, ℕ, ◌+◌, ◌<◌, List, length, get_or, set, sym, subst, inl, inr, arith, get_or-set_same, get_or-set_other, length-set}
use Rattle.std.proofs.lemmas.Bool.{cases_lt}
use Rattle.simple_maps.specs.Pass.{AreInLine}

module _ {P : Type 0} (IsInLine : P → ℕ → Type 0) (slots : List P) (d : ℕ) (x : P) (within : d < length slots) where
  -- the slot that was written is made for its place, where it is one of the first n
  pub AreInLine-set : (n : ℕ) → (d < n → IsInLine x d) → ((e : ℕ) (none : P) → e ≢ d → e < n → e < length slots → IsInLine (get_or slots e none) e) → AreInLine IsInLine (set slots d x) n
  AreInLine-set n made others = record {
    at = λ e none l in_set.
        let in_slots : e < length slots = omega (arith, length-set slots d x) in
        elim (cases_lt e d) [
          | inl less ↦ (let other : e ≢ d = λ same. absurd (omega (arith, same)) in subst (λ y. IsInLine y e) (sym (get_or-set_other slots d e x none other)) (others e none other l in_slots))
          | inr more ↦ elim (cases_lt d e) [
            | inl less ↦ (let other : e ≢ d = λ same. absurd (omega (arith, same)) in subst (λ y. IsInLine y e) (sym (get_or-set_other slots d e x none other)) (others e none other l in_slots))
            | inr most ↦
                (let same : d ≡ e = omega arith in
                subst (λ i. IsInLine (get_or (set slots d x) i none) i) same (subst (λ y. IsInLine y d) (sym (get_or-set_same slots d x none within)) (made (omega arith))))
          ]
        ];
  }

  -- a slot more in line
  pub AreInLine-more : (next : ℕ) → next ≡ d + 1 → IsInLine x d → AreInLine IsInLine slots d → AreInLine IsInLine (set slots d x) next
  AreInLine-more next step made h = AreInLine-set next (λ l. made) (λ e none other l in_slots.
      elim (cases_lt e d) [
        | inl less ↦ h.at e none less in_slots
        | inr more ↦ absurd (other (omega arith))
      ])
