-- Verdicts that were worked out by hand.
use Rattle.std.proofs.Common.{◌≡◌, zero, suc, List, [], ◌∷◌, ℤ, pos, negsuc, refl, arith}
use Rattle.std.proofs.lemmas.Int.{ints}
use Rattle.classes.specs.Classes.{merge}
use Rattle.map_lists.specs.Lists.{Lists}
use Rattle.map_theory.specs.Maps.{entry_after}
use Rattle.pg_plane.specs.declared.grid_points.Point.{Point}
use Rattle.drawings.specs.Valid.{AllInGrid}
use Rattle.draw_check.specs.Verdicts.{IsVerdict}
use Rattle.drawings.specs.OuterFaces.{face_sum}
use Rattle.draw_check.specs.declared.verdict.Verdict.TheVariants.{OutOfGrid, SamePlace}

abbrev at : ℤ → ℤ → Point
at x y = record { x = x; y = y }

-- two isolated vertices at one place
abbrev two : Lists
two = [] ∷ [] ∷ []

abbrev spots : List Point
spots = at (pos 1) (pos 1) ∷ at (pos 1) (pos 1) ∷ []

in_grid : AllInGrid two spots (pos 1) (pos 1)
in_grid zero l = record { left = omega (arith, ints); right = omega (arith, ints); bottom = omega (arith, ints); top = omega (arith, ints) }
in_grid (suc zero) l = record { left = omega (arith, ints); right = omega (arith, ints); bottom = omega (arith, ints); top = omega (arith, ints) }
in_grid (suc (suc v)) l = absurd (omega arith)

same_place : IsVerdict two spots (pos 1) (pos 1) (SamePlace (record { 0 = 0 }) (record { 0 = 1 }))
same_place = grind (arith, in_grid)

-- on a smaller grid the first of them is outside
outside : IsVerdict two spots (pos 0) (pos 1) (OutOfGrid (record { 0 = 0 }))
outside = record {
  here = record { vertex = omega arith; outside = λ h. let right = h.right in omega (arith, ints) };
  before = λ y l s. omega arith;
}

-- four vertices, each adjacent to the others, the third of which stands inside
abbrev four : Lists
four = (1 ∷ 2 ∷ 3 ∷ []) ∷ (0 ∷ 3 ∷ 2 ∷ []) ∷ (0 ∷ 1 ∷ 3 ∷ []) ∷ (0 ∷ 2 ∷ 1 ∷ []) ∷ []

abbrev four_spots : List Point
four_spots = at (pos 4) (pos 0) ∷ at (pos 0) (pos 0) ∷ at (pos 2) (pos 1) ∷ at (pos 2) (pos 2) ∷ []

-- the outer face, walked clockwise, and the three others
outer_sum : face_sum four four_spots (0, 1) ≡ negsuc 7
unfolding face_sum merge entry_after
outer_sum = refl

lower_sum : face_sum four four_spots (0, 2) ≡ pos 4
unfolding face_sum merge entry_after
lower_sum = refl

left_sum : face_sum four four_spots (1, 2) ≡ pos 2
unfolding face_sum merge entry_after
left_sum = refl

right_sum : face_sum four four_spots (2, 0) ≡ pos 2
unfolding face_sum merge entry_after
right_sum = refl
