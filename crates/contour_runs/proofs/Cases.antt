-- The definitions, run on the tetrahedron and the octahedron.
use Rattle.std.specs.Prelude.{ℕ, zero, suc, ◌≡◌, List, [], ◌∷◌, map, slice_index_or, refl}
use Rattle.std.specs.List.{range_with_len}
use Rattle.std.proofs.Common.{arith}
use Rattle.contour_runs.specs.Runs.{Step, moved, vertex_after, place_after, stage_after, IsRun, IsCovered, IsFaceOf, contour, faces_made}

-- a step from its two places, and a list of steps
abbrev pub over : ℕ → ℕ → Step
over i j = record { first = i; last = j }

abbrev pub listed : List Step → ℕ → Step
listed steps k = slice_index_or steps k (over 0 1)

-- the tetrahedron: the third vertex, and the fourth over all three
abbrev pub tetrahedron : ℕ → Step
tetrahedron = listed (over 0 1 ∷ over 0 2 ∷ [])

tetrahedron_two : contour (stage_after tetrahedron 1) ≡ 0 ∷ 2 ∷ 1 ∷ []
unfolding vertex_after
tetrahedron_two = refl

tetrahedron_end : contour (stage_after tetrahedron 2) ≡ 0 ∷ 3 ∷ 1 ∷ []
unfolding vertex_after
tetrahedron_end = refl

-- the third vertex has gone under the fourth
tetrahedron_places : map (stage_after tetrahedron 2).place (range_with_len 0 4) ≡ 0 ∷ 2 ∷ 1 ∷ 1 ∷ []
unfolding place_after moved
tetrahedron_places = refl

tetrahedron_faces : faces_made tetrahedron 2 ≡ 3
tetrahedron_faces = refl

tetrahedron_run : IsRun tetrahedron 2
tetrahedron_run zero l = record { order = omega arith; within = omega arith }
tetrahedron_run (suc zero) l = record { order = omega arith; within = omega arith }
tetrahedron_run (suc (suc k)) l = absurd (omega arith)

-- one of its faces: the third vertex, the second, and over them the fourth
tetrahedron_face : IsFaceOf tetrahedron 1 1 2 1 3
unfolding vertex_after
tetrahedron_face = record { low = omega arith; high = omega arith; left = refl; right = refl; new = refl }

tetrahedron_covered : IsCovered tetrahedron 1 2
unfolding vertex_after
tetrahedron_covered = record { place = 1; low = omega arith; high = omega arith; vertex = refl }

-- the octahedron: the fourth vertex covers none, the fifth the third, and the sixth the fourth and the fifth
abbrev pub octahedron : ℕ → Step
octahedron = listed (over 0 1 ∷ over 0 1 ∷ over 1 3 ∷ over 0 3 ∷ [])

octahedron_three : contour (stage_after octahedron 2) ≡ 0 ∷ 3 ∷ 2 ∷ 1 ∷ []
unfolding vertex_after
octahedron_three = refl

octahedron_four : contour (stage_after octahedron 3) ≡ 0 ∷ 3 ∷ 4 ∷ 1 ∷ []
unfolding vertex_after
octahedron_four = refl

octahedron_end : contour (stage_after octahedron 4) ≡ 0 ∷ 5 ∷ 1 ∷ []
unfolding vertex_after
octahedron_end = refl

octahedron_places : map (stage_after octahedron 4).place (range_with_len 0 6) ≡ 0 ∷ 2 ∷ 1 ∷ 1 ∷ 1 ∷ 1 ∷ []
unfolding place_after moved
octahedron_places = refl

octahedron_faces : faces_made octahedron 4 ≡ 7
octahedron_faces = refl

octahedron_run : IsRun octahedron 4
octahedron_run x0 l = grind arith
