-- The coordinates of the tetrahedron and of the octahedron.
use Rattle.std.specs.Prelude.{ℕ, ◌+◌, ◌≡◌, List, [], ◌∷◌, map, refl}
use Rattle.std.specs.List.{range_with_len}
use Rattle.contour_runs.specs.Runs.{Step, vertex_after, place_after, moved}
use Rattle.contour_runs.proofs.Cases.{tetrahedron, octahedron}
use Rattle.contour_runs.specs.Wood.{one_gain, two_gain, one_after, two_after, drawn_one, drawn_two, wood_points}

-- x of the vertices, then y
abbrev xs : (ℕ → Step) → ℕ → List ℕ
xs steps n = map (wood_points steps n).one (range_with_len 0 (n + 2))

abbrev ys : (ℕ → Step) → ℕ → List ℕ
ys steps n = map (wood_points steps n).two (range_with_len 0 (n + 2))

-- the tetrahedron, with its third vertex at (1, 1)
tetrahedron_x : xs tetrahedron 2 ≡ 2 ∷ 0 ∷ 1 ∷ 1 ∷ []
unfolding one_gain two_gain one_after two_after drawn_one drawn_two vertex_after place_after moved
tetrahedron_x = refl

tetrahedron_y : ys tetrahedron 2 ≡ 1 ∷ 2 ∷ 1 ∷ 0 ∷ []
unfolding one_gain two_gain one_after two_after drawn_one drawn_two vertex_after place_after moved
tetrahedron_y = refl

-- the octahedron
octahedron_x : xs octahedron 4 ≡ 4 ∷ 0 ∷ 1 ∷ 3 ∷ 1 ∷ 1 ∷ []
unfolding one_gain two_gain one_after two_after drawn_one drawn_two vertex_after place_after moved
octahedron_x = refl

octahedron_y : ys octahedron 4 ≡ 1 ∷ 4 ∷ 3 ∷ 1 ∷ 1 ∷ 0 ∷ []
unfolding one_gain two_gain one_after two_after drawn_one drawn_two vertex_after place_after moved
octahedron_y = refl
