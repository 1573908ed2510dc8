-- Parents of the tetrahedron and of the octahedron.
use Rattle.std.specs.Prelude.{refl}
use Rattle.std.proofs.Common.{arith}
use Rattle.contour_runs.specs.Runs.{vertex_after}
use Rattle.contour_runs.proofs.Cases.{tetrahedron, octahedron}
use Rattle.wood_runs.specs.Parents.{one, two, three, IsParent}

-- the parents of the inner vertex of the tetrahedron are the roots
tetrahedron_one : IsParent one tetrahedron 2 2 0
unfolding vertex_after
tetrahedron_one = record { step = 0; earlier = omega arith; vertex = refl; parent = refl }

tetrahedron_two : IsParent two tetrahedron 2 2 1
unfolding vertex_after
tetrahedron_two = record { step = 0; earlier = omega arith; vertex = refl; parent = refl }

tetrahedron_three : IsParent three tetrahedron 2 2 3
unfolding vertex_after
tetrahedron_three = record { step = 1; earlier = omega arith; covered = record { place = 1; low = omega arith; high = omega arith; vertex = refl }; parent = refl }

-- in the octahedron the fifth vertex hangs on the fourth and on the root of colour two
octahedron_one : IsParent one octahedron 4 4 3
unfolding vertex_after
octahedron_one = record { step = 2; earlier = omega arith; vertex = refl; parent = refl }

octahedron_two : IsParent two octahedron 4 4 1
unfolding vertex_after
octahedron_two = record { step = 2; earlier = omega arith; vertex = refl; parent = refl }
