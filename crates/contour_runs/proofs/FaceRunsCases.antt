-- The definitions, run on the tetrahedron and the cube.
use Rattle.std.specs.Prelude.{ℕ, zero, suc, ◌≡◌, List, [], ◌∷◌, map, slice_index_or, ◌<◌, ◌≤◌, refl}
use Rattle.std.specs.List.{range_with_len}
use Rattle.std.proofs.Common.{inl, inr, arith}
use Rattle.contour_runs.specs.Runs.{Stage, contour}
use Rattle.contour_runs.proofs.FaceRunsFaces.{face_length, face_vertex}
use Rattle.contour_runs.specs.FaceRuns.{IsRun, Step, moved, vertex_after, place_after, stage_after, IsStep, faces_made}

-- a row of new vertices, and a single one with a neighbour at each place
abbrev pub row : ℕ → ℕ → ℕ → ℕ → Step
row first last vertices turn = record { first = first; last = last; vertices = vertices; faces = 1; cut = λ i. slice_index_or (first ∷ []) i last; turn = λ i. turn }

abbrev pub fan : ℕ → ℕ → ℕ → ℕ → ℕ → Step
fan first middle last turn later = record { first = first; last = last; vertices = 1; faces = 2; cut = λ i. slice_index_or (first ∷ middle ∷ []) i last; turn = λ i. slice_index_or (turn ∷ []) i later }

abbrev pub listed : List Step → ℕ → Step
listed steps k = slice_index_or steps k (row 0 1 1 0)

-- the tetrahedron: a vertex over the base, and one over all three
abbrev pub tetrahedron : ℕ → Step
tetrahedron = listed (row 0 1 1 0 ∷ fan 0 1 2 0 1 ∷ [])

tetrahedron_end : contour (stage_after tetrahedron 2) ≡ 0 ∷ 3 ∷ 1 ∷ []
unfolding vertex_after
tetrahedron_end = refl

tetrahedron_faces : faces_made tetrahedron 2 ≡ 3
tetrahedron_faces = refl

-- the cube: two vertices over the base, two over the edge between them, one at the first end, and one over three places
abbrev pub cube : ℕ → Step
cube = listed (row 0 1 2 0 ∷ row 1 2 2 1 ∷ row 0 2 1 0 ∷ fan 1 3 5 2 4 ∷ [])

cube_two : contour (stage_after cube 2) ≡ 0 ∷ 2 ∷ 4 ∷ 5 ∷ 3 ∷ 1 ∷ []
unfolding vertex_after
cube_two = refl

cube_end : contour (stage_after cube 4) ≡ 0 ∷ 6 ∷ 7 ∷ 1 ∷ []
unfolding vertex_after
cube_end = refl

-- the third vertex, which the third step covers, has gone with the fifth one, behind the turn
cube_three_places : map (stage_after cube 3).place (range_with_len 0 7) ≡ 0 ∷ 5 ∷ 2 ∷ 4 ∷ 2 ∷ 3 ∷ 1 ∷ []
unfolding place_after moved
cube_three_places = refl

cube_faces : faces_made cube 4 ≡ 5
cube_faces = refl

-- its last face but one: along the contour, and then the new vertex
cube_face : map (face_vertex (stage_after cube 3) (cube 3) 0) (range_with_len 0 (face_length (cube 3) 0)) ≡ 6 ∷ 4 ∷ 5 ∷ 7 ∷ []
unfolding face_vertex vertex_after
cube_face = refl

-- and the face of a row: the new vertices, the last first
cube_row : map (face_vertex (stage_after cube 1) (cube 1) 0) (range_with_len 0 (face_length (cube 1) 0)) ≡ 2 ∷ 3 ∷ 5 ∷ 4 ∷ []
unfolding face_vertex vertex_after
cube_row = refl

-- rows and single vertices with two faces are steps
pub row_step : (g : Stage) (first last vertices turn : ℕ) → first ≤ turn → turn < last → last < g.width → 0 < vertices → IsStep g (row first last vertices turn)
row_step g first last vertices turn a b c d = grind (arith, row)

pub fan_step : (g : Stage) (first middle last turn later : ℕ) → first ≤ turn → turn < middle → middle ≤ later → later < last → last < g.width → IsStep g (fan first middle last turn later)
fan_step g first middle last turn later a b c d e = grind (arith, fan)

-- the cube is a run
pub cube_run : IsRun cube 4
cube_run x0 l = grind (arith, row_step, stage_after, cube, fan_step)
