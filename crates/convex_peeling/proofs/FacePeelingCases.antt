-- The definitions that the laws cite, run on small cases.
use Rattle.std.proofs.Common.{◌≡◌, ℕ, Bool, not, eqb, [], ◌∷◌, map, get_or, refl, arith}
use Rattle.classes.specs.Classes.{merge}
use Rattle.map_lists.specs.Lists.{Lists}
use Rattle.map_theory.specs.Maps.{entry_after, face_classes}
use Rattle.map_theory.proofs.DartLemmas.{Contains-from_place_of}
use Rattle.convex_peeling.specs.Contours.{face_of, Passes, IsRim}
use Rattle.convex_peeling.proofs.Contours.{spliced}
use Rattle.convex_peeling.proofs.ChainsOff.{two_cuts}

-- the tetrahedron: its faces are 0 1 2, 0 3 1, 0 2 3 and 1 3 2
abbrev tetrahedron : Lists
tetrahedron = (1 ∷ 3 ∷ 2 ∷ []) ∷ (0 ∷ 2 ∷ 3 ∷ []) ∷ (0 ∷ 3 ∷ 1 ∷ []) ∷ (0 ∷ 1 ∷ 2 ∷ []) ∷ []

-- each by its least dart
one_face : face_of tetrahedron 1 2 ≡ face_of tetrahedron 0 1
unfolding merge entry_after
one_face = refl

labels : face_classes tetrahedron ≡ 0 ∷ 1 ∷ 2 ∷ 1 ∷ 0 ∷ 5 ∷ 0 ∷ 2 ∷ 5 ∷ 2 ∷ 1 ∷ 5 ∷ []
unfolding merge entry_after
labels = refl

-- with the face 0 1 2 taken off its dart from 0 to 1 is of the rim
others : ℕ → Bool
others f = not (eqb f 0)

first_rim : IsRim tetrahedron others 0 1
unfolding merge entry_after others
first_rim = record { dart = (omega arith, Contains-from_place_of 1 (1 ∷ 3 ∷ 2 ∷ []) (omega arith)); outside = refl; inside = refl }

-- on the other side is a face that passes 3
passes_third : Passes tetrahedron (face_of tetrahedron 1 0) 3
unfolding merge entry_after
passes_third = (1, (omega arith, Contains-from_place_of 1 (0 ∷ 1 ∷ 2 ∷ []) (omega arith)), refl)

-- the contour 10, 11, 12, 13, and 10 once more, with the walk 11, 20, 21, 12 in place of the edge from 11 to 12
spliced_row : map (spliced (λ i. get_or (10 ∷ 11 ∷ 12 ∷ 13 ∷ 10 ∷ []) i 0) 1 2 (λ t. get_or (11 ∷ 20 ∷ 21 ∷ 12 ∷ []) t 0) 3) (0 ∷ 1 ∷ 2 ∷ 3 ∷ 4 ∷ 5 ∷ 6 ∷ []) ≡ 10 ∷ 11 ∷ 20 ∷ 21 ∷ 12 ∷ 13 ∷ 10 ∷ []
unfolding spliced
spliced_row = refl

-- the two places that bound one face
bounds : map (two_cuts 1 4) (0 ∷ 1 ∷ []) ≡ 1 ∷ 4 ∷ []
bounds = refl
