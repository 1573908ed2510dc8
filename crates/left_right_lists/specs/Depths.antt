-- Depths in a forest, as a table by vertex.
use Rattle.std.specs.Prelude.{ℕ, ◌+◌, ◌<◌, ◌≤◌, ◌≡◌, List, length, slice_index}

-- x is one more than the depth of v's parent, or 0 where the parent is no vertex
pub record IsDepthBy (parents depths : List ℕ) (v x : ℕ) : Type 0 where
  pub below : slice_index parents v < length depths → x ≡ slice_index depths (slice_index parents v) + 1
  pub root : length depths ≤ slice_index parents v → x ≡ 0

-- the depths of the first k vertices of an order are these
pub record AreDepths (order parents depths : List ℕ) (k : ℕ) : Type 0 where
  pub long : length depths ≡ length parents
  pub most : (v : ℕ) → slice_index depths v ≤ k
  pub done : (j : ℕ) → j < k → IsDepthBy parents depths (slice_index order j) (slice_index depths (slice_index order j))
