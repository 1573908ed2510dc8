-- Sides that wrong bodies would write: the clause refuses them.
use Rattle.std.proofs.Common.{◌≡◌, ℕ, List, slice_index, inl, inr, arith}
use Rattle.rect_dual.specs.Sides.{IsWritten}

-- what is written is one: the turn is not left out, and nothing behind it is written
IsWritten-unique : (old new made row : List ℕ) (from to side v : ℕ) → IsWritten old new row from to side → IsWritten old made row from to side → slice_index new v ≡ slice_index made v
IsWritten-unique old new made row from to side v a b =
    elim (a v) [
      | inl h ↦ elim (b v) [ inl k ↦ let e = h.1 in let f = k.1 in omega arith | inr k ↦ absurd (k.0 h.0) ]
      | inr h ↦ elim (b v) [ inl k ↦ absurd (h.0 k.0) | inr k ↦ let e = h.1 in let f = k.1 in omega arith ]
    ]
