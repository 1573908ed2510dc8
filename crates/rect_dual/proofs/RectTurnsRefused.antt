-- A place that a wrong body would give: the clause refuses it.
use Rattle.std.proofs.Common.{◌≡◌, ◌<◌, ℕ, List, Bool, inl, inr, arith}
use Rattle.rect_dual.specs.Turns.{IsTurnIn}

not_before : (row : List ℕ) (runs : List Bool) (c e : ℕ) → IsTurnIn row runs c → IsTurnIn row runs e → c < e → ⊥
not_before row runs c e a b less =
    elim a.end [
      | inl h ↦ let k = b.high in omega arith
      | inr h ↦ let k = b.rises c less in cc
    ]

-- a row has one turn, and not the place of its first rise
IsTurnIn-unique : (row : List ℕ) (runs : List Bool) (c e : ℕ) → IsTurnIn row runs c → IsTurnIn row runs e → c ≡ e
IsTurnIn-unique row runs c e a b = omega (arith, not_before row runs c e a b, not_before row runs e c b a)
