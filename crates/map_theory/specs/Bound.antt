-- The Euler bound for maps.
use Rattle.std.specs.Prelude.{ℕ, ◌+◌, ◌*◌, ◌≡◌}
use Rattle.map_lists.specs.Lists.{Lists}
use Rattle.map_theory.specs.Maps.{IsSimpleMap, vertex_count, edge_count, face_count, component_count}

-- In a simple map n + f is at most 2c + m, by an even difference.
abbrev pub EulerBound : Type 0
EulerBound =
    (lists : Lists) → IsSimpleMap lists → (g : ℕ) × (vertex_count lists + face_count lists + 2 * g ≡ 2 * component_count lists + edge_count lists)
