-- A number that a wrong body would give for the left of an edge.
use Rattle.std.proofs.Common.{◌≡◌, ◌<◌, ℕ, zero, suc, List, [], ◌∷◌, Option, Some, sym, ap, subst, arith}
use Rattle.std.specs.Prelude.{slice_index, slice_index_or, unwrap_or}
use Rattle.map_theory.specs.Maps.{Dart}
use Rattle.half_edges.specs.Map.{AreMapFacts, Map, dart_at}
use Rattle.bipolar.specs.FaceArcs.{InWalk, IsLeftNumber}

-- one edge, each of whose darts is given a walk
abbrev edge : AreMapFacts ((1 ∷ []) ∷ (0 ∷ []) ∷ []) 0 (Some (0, 1) ∷ Some (1, 0) ∷ []) → Map
edge known = record { lists = (1 ∷ []) ∷ (0 ∷ []) ∷ []; spare = 0; ids = Some (0, 1) ∷ Some (1, 0) ∷ []; known = known }

abbrev walks : List (List ℕ)
walks = (0 ∷ []) ∷ (1 ∷ []) ∷ []

-- the number of the walk on its right
numbers_of_right_faces : (known : AreMapFacts ((1 ∷ []) ∷ (0 ∷ []) ∷ []) 0 (Some (0, 1) ∷ Some (1, 0) ∷ [])) → IsLeftNumber (edge known) walks (0 ∷ 1 ∷ []) (5 ∷ 7 ∷ []) 0 1 7 → ⊥
numbers_of_right_faces known n = grind (arith, slice_index_or, dart_at, edge, Some, Option, Dart, unwrap_or, InWalk, walks, slice_index)
