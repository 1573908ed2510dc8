-- What the generator makes, as statements about all its maps.
use Rattle.std.specs.Prelude.{ℕ, ◌≤◌, ◌≡◌}
use Rattle.map_theory.specs.Maps.{vertex_count}
use Rattle.plane_laws.specs.Triangulations.{IsTriangulation}
use Rattle.map_gen.specs.Stacked.{stacked}

-- Each map that the generator makes has n vertices and is a triangulation: of genus zero, and all its faces are triangles.
abbrev pub StackedIsTriangulation : Type 0
StackedIsTriangulation = (n number : ℕ) → 3 ≤ n → IsTriangulation (stacked n number) × (vertex_count (stacked n number) ≡ n)
