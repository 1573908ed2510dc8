-- The definitions, run on the tetrahedron.
use Rattle.std.specs.Prelude.{◌≡◌, [], ◌∷◌, map, true, false, refl}
use Rattle.std.specs.List.{range_with_len}
use Rattle.contour_runs.specs.Runs.{moved, vertex_after, place_after}
use Rattle.contour_runs.proofs.Cases.{tetrahedron, octahedron}
use Rattle.wood_runs.specs.Parents.{three}
use Rattle.wood_runs.specs.Fronts.{front_after, old_front, shade_after, shades}
use Rattle.wood_runs.proofs.Sides.{on_upper_after, paths, side_after, sides}

-- the third vertex of the tetrahedron: each face at it has a shade, and each of the others is on a path and on a side
tetrahedron_shades : map (shades tetrahedron 2 2) (range_with_len 0 3) ≡ 3 ∷ 2 ∷ 1 ∷ []
unfolding shade_after old_front front_after vertex_after
tetrahedron_shades = refl

tetrahedron_sides : map (sides tetrahedron 2 2) (range_with_len 0 4) ≡ 3 ∷ 1 ∷ 0 ∷ 2 ∷ []
unfolding side_after place_after moved vertex_after
tetrahedron_sides = refl

tetrahedron_path : map (paths tetrahedron 2 three 2) (range_with_len 0 4) ≡ false ∷ false ∷ true ∷ true ∷ []
unfolding on_upper_after place_after moved vertex_after
tetrahedron_path = refl

-- the third vertex of the octahedron: on its side 2 lie the fourth and the last two, which are those of its path
octahedron_sides : map (sides octahedron 4 2) (range_with_len 0 6) ≡ 3 ∷ 1 ∷ 0 ∷ 2 ∷ 2 ∷ 2 ∷ []
unfolding side_after place_after moved vertex_after
octahedron_sides = refl
