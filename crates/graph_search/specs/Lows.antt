-- Low points of a finished search.
use Rattle.std.specs.Prelude.{ℕ, ◌<◌, ◌≤◌, ◌≡◌, ◌≢◌, min, List, length, slice_index}
use Rattle.map_lists.specs.Lists.{Lists}
use Rattle.map_theory.specs.Maps.{HasDart}

-- w is v, or v holds it
pub record IsWithin (number last : ℕ → ℕ) (v w : ℕ) : Type 0 where
  pub from : number v ≤ number w
  pub before : number w < last v

-- u is a neighbour of v or of a vertex that v holds
pub record Meets (lists : Lists) (number last : ℕ → ℕ) (v u : ℕ) : Type 0 where
  pub w : ℕ
  pub within : IsWithin number last v w
  pub dart : HasDart lists w u

-- the least number of a neighbour of v or of what v holds; the number of vertices, where there is none
pub record IsLow (lists : Lists) (number last : ℕ → ℕ) (v low : ℕ) : Type 0 where
  pub least : (u : ℕ) → Meets lists number last v u → low ≤ number u
  pub met : low < length lists → (u : ℕ) × Meets lists number last v u × (number u ≡ low)

-- the low point of each vertex, in a table
pub record AreLows (lists : Lists) (number last low : List ℕ) : Type 0 where
  pub count : length low ≡ length lists
  pub at : (v : ℕ) → v < length lists → IsLow lists (λ u. slice_index number u) (λ u. slice_index last u) v (slice_index low v)

-- the entry of v lowered to `least`, where it is greater, and no other changed
pub record IsLowered (old new : List ℕ) (v least : ℕ) : Type 0 where
  pub count : length new ≡ length old
  pub here : v < length old → slice_index new v ≡ min (slice_index old v) least
  pub elsewhere : (u : ℕ) → u ≢ v → slice_index new u ≡ slice_index old u
