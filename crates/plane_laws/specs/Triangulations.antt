-- Triangulations.
use Rattle.std.specs.Prelude.{◌+◌, ◌*◌, ◌≤◌, ◌≡◌}
use Rattle.map_lists.specs.Lists.{Lists}
use Rattle.map_theory.specs.Maps.{IsSimpleMap, IsPlane, vertex_count, edge_count}

-- a simple map of genus zero with at least three vertices, and as many edges as such a map can have
pub record IsTriangulation (lists : Lists) : Type 0 where
  pub simple : IsSimpleMap lists
  pub plane : IsPlane lists
  pub some : 3 ≤ vertex_count lists
  pub edges : edge_count lists + 6 ≡ 3 * vertex_count lists
