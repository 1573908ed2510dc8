-- The components of a map, numbered from 0 by their least vertices.
use Rattle.std.specs.Prelude.{ℕ, ◌<◌, ◌≡◌, ◌↔◌, List, length, slice_index}
use Rattle.map_lists.specs.Lists.{Lists}
use Rattle.map_theory.specs.Maps.{vertex_count, component_count, SameComponent}
use Rattle.euler_faces.specs.Search.{component_number}

-- what contracts see of numbered components
pub record PartNumbers : Type 0 where
  -- how many components there are
  pub count : ℕ
  -- for each vertex the number of its component
  pub numbers : List ℕ

-- The components of the lists: each vertex has for its number how many components have a lesser least vertex, so two vertices have one number just where they are in one component.
pub record ArePartsOf (lists : Lists) (parts : PartNumbers) : Type 0 where
  pub count : parts.count ≡ component_count lists
  pub vertices : length parts.numbers ≡ vertex_count lists
  pub number : (v : ℕ) → v < length lists → slice_index parts.numbers v ≡ component_number lists v
  pub below : (v : ℕ) → v < length lists → slice_index parts.numbers v < parts.count
  pub same : (u v : ℕ) → u < length lists → v < length lists → (slice_index parts.numbers u ≡ slice_index parts.numbers v) ↔ SameComponent lists u v
