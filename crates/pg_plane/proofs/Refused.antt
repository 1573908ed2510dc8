-- Answers on points that wrong bodies would give.
use Rattle.std.proofs.Common.{ℕ, pos, inl, ⊎_elim, refl, arith}
use Rattle.std.proofs.lemmas.Int.{ints}
use Rattle.pg_plane.specs.declared.grid_points.Point.{Point}
use Rattle.pg_plane.specs.Geometry.{vector, IsOnSegment, DoCross, IsClockBefore}

abbrev point : ℕ → ℕ → Point
point x y = record { x = pos x; y = pos y }

-- the end of a segment left out of it
ends_left_out : ¬ IsOnSegment (point 0 0) (point 0 0) (point 2 0) → ⊥
ends_left_out n =
    n (record { on_line = refl; between_x = inl (omega (arith, ints), omega (arith, ints)); between_y = inl (omega (arith, ints), omega (arith, ints)) })

-- up does not come before down
halves_exchanged : ¬ IsClockBefore (vector (point 1 1) (point 1 2)) (vector (point 1 1) (point 1 0)) → ⊥
halves_exchanged n = n (inl (inl (omega (arith, ints)), λ h. ⊎_elim (λ l. omega (arith, ints, l)) (λ l. omega (arith, ints, l.1)) h))

-- a segment beside another, whose line crosses that one
one_segment_is_enough : DoCross (point 0 1) (point 2 1) (point 3 2) (point 3 0) → ⊥
one_segment_is_enough c = ⊎_elim (λ l. omega (arith, ints, l.1)) (λ l. omega (arith, ints, l.0)) c.ends_of_first

-- a segment that ends on another
touching_is_crossing : DoCross (point 0 0) (point 2 0) (point 1 0) (point 1 2) → ⊥
touching_is_crossing c = ⊎_elim (λ l. omega (arith, ints, l.0)) (λ l. omega (arith, ints, l.0)) c.ends_of_second
