-- Ends of a bar that wrong bodies would give.
use Rattle.std.proofs.Common.{◌≡◌, ◌<◌, ℕ, zero, suc, [], ◌∷◌, pos, arith}
use Rattle.std.specs.Prelude.{slice_index}
use Rattle.std.proofs.lemmas.Int.{ints}
use Rattle.visibility.specs.Ends.{IsLeastOf, IsGreatestOf, AreEnds}

-- a bar ends at its first column
bar_ends_at_its_first_column : IsGreatestOf (1 ∷ 2 ∷ []) 1 → ⊥
bar_ends_at_its_first_column g = omega (arith, g.least 1 (omega arith))

-- a bar begins at column 0, where its first column is 1
column_through_a_bar : AreEnds ((1 ∷ []) ∷ []) IsLeastOf (pos 0 ∷ []) → ⊥
column_through_a_bar ends =
    let (x, l, e) = ends.each 0 (omega arith) in
    nowhere x (omega (arith, ints, e)) l.one.0 l.one.1 l.one.2
  where
    nowhere : (x : ℕ) → x ≡ 0 → (i : ℕ) → i < 1 → slice_index (1 ∷ []) i ≡ x → ⊥
    nowhere x z zero li e = omega (arith, z, e)
    nowhere x z (suc i) li e = omega (arith, li)
