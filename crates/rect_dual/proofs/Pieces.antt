-- The front and the back of a row, written as lists of their own.
use Rattle.std.proofs.Common.{ℕ, ◌+◌, ◌-◌, ◌≤◌, ◌≡◌, List, length, get_or, take, drop, sym, ap, ◌∙◌, inl, inr, arith}
use Rattle.std.proofs.lemmas.List.{get_or-take, get_or-drop, length-take-le, length-drop}
use Rattle.rect_dual.specs.Sides.{IsWritten}

pub IsWritten-front : (old new row : List ℕ) (m side : ℕ) → m ≤ length row → IsWritten old new (take m row) 0 (length (take m row)) side → IsWritten old new row 0 m side
IsWritten-front old new row m side short w = λ v.
    let long = length-take-le m row short in
    elim (w v) [
      | inl x ↦
          let h = x.0.high in
          inl (record { place = x.0.place; low = omega arith; high = omega (arith, h, long); vertex = sym (get_or-take m row x.0.place 0 (omega (arith, h, long))) ∙ x.0.vertex }, x.1)
      | inr x ↦ inr ((λ p. let h = p.high in x.0 (record { place = p.place; low = omega arith; high = omega (arith, h, long); vertex = get_or-take m row p.place 0 h ∙ p.vertex })), x.1)
    ]

pub IsWritten-back : (old new row : List ℕ) (m side : ℕ) → m ≤ length row → IsWritten old new (drop m row) 0 (length (drop m row)) side → IsWritten old new row m (length row) side
IsWritten-back old new row m side short w = λ v.
    let long = length-drop m row in
    elim (w v) [
      | inl x ↦
          let h = x.0.high in
          inl (record { place = m + x.0.place; low = omega arith; high = omega (arith, h, long, short); vertex = sym (get_or-drop m row x.0.place 0) ∙ x.0.vertex }, x.1)
      | inr x ↦ inr (
        (λ p.
            let low = p.low in
            let high = p.high in
            let e : m + (p.place - m) ≡ p.place = omega (arith, low) in
            x.0 (record { place = p.place - m; low = omega arith; high = omega (arith, low, high, long); vertex = get_or-drop m row (p.place - m) 0 ∙ (ap (λ i. get_or row i 0) e ∙ p.vertex) })),
        x.1,
      )
    ]
