-- A list of numbers and its inverse.
use Rattle.std.specs.Prelude.{ℕ, ◌<◌, ◌≡◌, List, length, slice_index}

-- rank has the place of each vertex in a list
pub record IsRankOf (rank at : List ℕ) : Type 0 where
  pub count : length rank ≡ length at
  pub of_place : (i : ℕ) → i < length at → slice_index rank (slice_index at i) ≡ i
  pub of_vertex : (v : ℕ) → v < length at → slice_index at (slice_index rank v) ≡ v
