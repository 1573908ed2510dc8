-- Points on triangles, on worked cases.
use Rattle.std.specs.Prelude.{ℤ, pos, refl}
use Rattle.std.proofs.Common.{inl, arith}
use Rattle.std.proofs.lemmas.Int.{ints}
use Rattle.pg_plane.specs.declared.grid_points.Point.{Point}
use Rattle.drawings.specs.Corners.{IsOnTriangle}

abbrev pub at : ℤ → ℤ → Point
at x y = record { x = x; y = y }

-- a point with a flat angle is on a side
flat : IsOnTriangle (at (pos 1) (pos 0)) (at (pos 0) (pos 0)) (at (pos 2) (pos 0)) (at (pos 0) (pos 2))
flat = inl (record { on_line = refl; between_x = inl (omega (arith, ints), omega (arith, ints)); between_y = inl (omega (arith, ints), omega (arith, ints)) })
