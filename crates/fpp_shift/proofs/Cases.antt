-- The points of the tetrahedron and of the octahedron.
use Rattle.std.specs.Prelude.{ℕ, ◌+◌, ◌≡◌, List, [], ◌∷◌, map, refl}
use Rattle.std.specs.List.{range_with_len}
use Rattle.contour_runs.specs.Runs.{Step, vertex_after, place_after, moved}
use Rattle.contour_runs.proofs.Cases.{tetrahedron, octahedron}
use Rattle.fpp_shift.specs.Shift.{shift, x_after, y_after, shift_points}

-- x of the vertices, then y
abbrev xs : (ℕ → Step) → ℕ → List ℕ
xs steps n = map (shift_points steps n).x (range_with_len 0 (n + 2))

abbrev ys : (ℕ → Step) → ℕ → List ℕ
ys steps n = map (shift_points steps n).y (range_with_len 0 (n + 2))

-- the tetrahedron: the third vertex moves to (2, 1) under the fourth
tetrahedron_x : xs tetrahedron 2 ≡ 0 ∷ 4 ∷ 2 ∷ 2 ∷ []
unfolding shift x_after y_after vertex_after place_after moved
tetrahedron_x = refl

tetrahedron_y : ys tetrahedron 2 ≡ 0 ∷ 0 ∷ 1 ∷ 2 ∷ []
unfolding shift x_after y_after vertex_after place_after moved
tetrahedron_y = refl

-- the octahedron: the fourth vertex is put at (2, 2), the fifth at (3, 3), the sixth at (4, 4)
octahedron_x : xs octahedron 4 ≡ 0 ∷ 8 ∷ 5 ∷ 3 ∷ 4 ∷ 4 ∷ []
unfolding shift x_after y_after vertex_after place_after moved
octahedron_x = refl

octahedron_y : ys octahedron 4 ≡ 0 ∷ 0 ∷ 1 ∷ 2 ∷ 3 ∷ 4 ∷ []
unfolding shift x_after y_after vertex_after place_after moved
octahedron_y = refl
