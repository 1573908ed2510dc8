-- Verdicts that wrong bodies would give on a triangle whose outer face is not that of vertex 0's first dart.
use Rattle.std.proofs.Common.{◌≡◌, ℕ, List, [], ◌∷◌, ℤ, pos, false, true, refl, arith}
use Rattle.std.proofs.lemmas.Int.{ints}
use Rattle.classes.specs.Classes.{merge}
use Rattle.map_lists.specs.Lists.{Lists}
use Rattle.map_theory.specs.Maps.{entry_after, component_count}
use Rattle.half_edges.specs.Map.{first_dart}
use Rattle.pg_plane.specs.declared.grid_points.Point.{Point}
use Rattle.drawings.specs.OuterFaces.{face_sum, HasOuterFace}
use Rattle.figure_verdicts.specs.Verdicts.{IsDrawnVerdict}
use Rattle.figure_verdicts.specs.declared.verdict.FigureVerdict.TheVariants.{Yes}

abbrev triangle : Lists
triangle = (1 ∷ 2 ∷ []) ∷ (2 ∷ 0 ∷ []) ∷ (0 ∷ 1 ∷ []) ∷ []

abbrev point : ℕ → ℕ → Point
point x y = record { x = pos x; y = pos y }

abbrev corners : List Point
corners = point 0 0 ∷ point 1 0 ∷ point 0 1 ∷ []

-- the other face has a negative area
wrong_face_is_well_drawn : HasOuterFace triangle corners (first_dart triangle 0) → ⊥
unfolding component_count merge face_sum entry_after
wrong_face_is_well_drawn outer =
    omega (arith, ints, outer refl 1 0 (omega arith, (1, omega arith, refl)) (λ same. (let h : false ≡ true = same in cc)))

-- and the verdict does not ask for it
outer_face_not_asked : (width height : ℤ) → IsDrawnVerdict triangle corners width height Yes → ⊥
outer_face_not_asked width height v = wrong_face_is_well_drawn v.1
