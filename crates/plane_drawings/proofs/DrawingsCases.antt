-- A drawing of the complete graph on four vertices, worked out by hand: the areas of its faces, dart by dart, and the order of its directions.
use Rattle.std.specs.Prelude.{ℤ, pos, negsuc, ◌≡◌, List, [], ◌∷◌, map, refl}
use Rattle.std.proofs.Common.{inl, inr, ⊎_elim, arith}
use Rattle.std.proofs.lemmas.Int.{ints}
use Rattle.map_lists.specs.Lists.{Lists}
use Rattle.map_theory.specs.Maps.{Dart, darts, follows, entry_after}
use Rattle.pg_plane.specs.declared.grid_points.Point.{Point}
use Rattle.pg_plane.specs.Geometry.{area, IsClockBefore}
use Rattle.plane_drawings.specs.Drawing.{place}

k4 : Lists
k4 = (1 ∷ 2 ∷ 3 ∷ []) ∷ (0 ∷ 3 ∷ 2 ∷ []) ∷ (0 ∷ 1 ∷ 3 ∷ []) ∷ (0 ∷ 2 ∷ 1 ∷ []) ∷ []

abbrev at : ℤ → ℤ → Point
at x y = record { x = x; y = y }

points : List Point
points = at (pos 4) (pos 0) ∷ at (pos 0) (pos 0) ∷ at (pos 2) (pos 1) ∷ at (pos 2) (pos 2) ∷ []

-- the face of the dart from 0 to 1 is walked clockwise, all others counterclockwise
areas : map (λ (d : Dart). area (place points d.0) (place points d.1) (place points (follows k4 d.1 d.0))) (darts k4) ≡ (negsuc 7) ∷ (pos 4) ∷ (pos 2) ∷ (pos 4) ∷ (negsuc 7) ∷ (pos 2) ∷ (pos 2) ∷ (pos 4) ∷ (pos 2) ∷ (negsuc 7) ∷ (pos 2) ∷ (pos 2) ∷ []
unfolding k4 points entry_after
areas = refl

-- west comes before north, and north before east
west_north : IsClockBefore (at (negsuc 0) (pos 0)) (at (pos 0) (pos 1))
west_north = inr (inl (inr (refl, omega (arith, ints)), inl (omega (arith, ints)), omega (arith, ints)))

north_east : IsClockBefore (at (pos 0) (pos 1)) (at (pos 1) (pos 0))
north_east = inl (inl (omega (arith, ints)), ⊎_elim (λ h. omega (arith, ints)) (λ h. let less = h.1 in omega (arith, ints)))
