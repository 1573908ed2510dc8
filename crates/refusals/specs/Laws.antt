-- Which lists break none of the first conditions.
use Rattle.std.specs.Prelude.{ℕ, ◌<◌, ◌≤◌, ◌≡◌, ◌↔◌, length, None}
use Rattle.map_lists.specs.Lists.{Lists}
use Rattle.map_theory.specs.Maps.{IsSimpleMap, IsPlane, vertex_count}
use Rattle.refusals.specs.Conditions.{first_refusal}

-- Lists of at least one vertex break none exactly where they are a simple map of genus zero with at least `least` vertices.
abbrev pub NoRefusalIsPlane : Type 0
NoRefusalIsPlane =
    (least : ℕ) (lists : Lists) → 0 < length lists → (first_refusal least lists ≡ None) ↔ (IsSimpleMap lists × IsPlane lists × (least ≤ vertex_count lists))
