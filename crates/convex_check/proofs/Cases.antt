-- A triangle, convex over one side of it and bent over the other.
use Rattle.std.specs.Prelude.{List, [], ◌∷◌, pos, refl}
use Rattle.std.proofs.Common.{arith}
use Rattle.std.proofs.lemmas.Bool.{false≢true}
use Rattle.std.proofs.lemmas.Int.{ints}
use Rattle.classes.specs.Classes.{merge}
use Rattle.map_lists.specs.Lists.{Lists}
use Rattle.map_theory.specs.Maps.{entry_after}
use Rattle.pg_plane.specs.declared.grid_points.Point.{Point}
use Rattle.drawings.specs.Convex.{IsBent}

-- neighbours clockwise
abbrev triangle : Lists
triangle = (1 ∷ 2 ∷ []) ∷ (2 ∷ 0 ∷ []) ∷ (0 ∷ 1 ∷ []) ∷ []

-- the corners of a triangle, clockwise
abbrev corners : List Point
corners = (record { x = pos 0; y = pos 0 }) ∷ (record { x = pos 0; y = pos 2 }) ∷ (record { x = pos 2; y = pos 0 }) ∷ []

-- its clockwise face is bent where it is not the base's
bent : IsBent triangle corners (1, 0) 0 1 2
unfolding entry_after merge
bent = record { dart = (omega arith, (0, omega arith, refl)); third = refl; other = λ e. false≢true e; turn = omega (arith, ints) }
