-- Two tables, by the ranks of vertices, that tell the runs of a rectangular order from its rises.
use Rattle.std.specs.Prelude.{ℕ, ◌+◌, ◌<◌, ◌≤◌, ◌≡◌, ◌==◌, ◌||◌, nat_lt, if◌then◌else◌, Bool, List, slice_index}
use Rattle.map_lists.specs.Lists.{Lists}
use Rattle.map_theory.specs.Maps.{list_of}
use Rattle.rect_runs.specs.Corners.{End, run_in, rise_out, run_out, rise_in}
use Rattle.rect_dual.specs.Sides.{IsInPiece}

-- v stands in row k at a place up to the row's turn, and so to the left of the vertex that is put on
abbrev pub StandsLeft : Lists → List ℕ → ℕ → ℕ → Type 0
StandsLeft rows places k v = IsInPiece (list_of rows k) 0 (slice_index places k + 1) v

-- For the vertex put on over each of the first n rows, whose rank is the row's number and two more, the vertex with which the row begins; elsewhere 0.
pub record AreFirsts (rows : Lists) (n : ℕ) (first : List ℕ) : Type 0 where
  pub of_row : (k : ℕ) → k < n → slice_index first (k + 2) ≡ slice_index (list_of rows k) 0
  pub none : (k : ℕ) → n ≤ k → slice_index first (k + 2) ≡ 0

-- For each vertex the last one, over the first n rows, to whose left it stands.
pub record AreLefts (rows : Lists) (places : List ℕ) (n : ℕ) (left : List ℕ) : Type 0 where
  pub latest : (k v : ℕ) → k < n → StandsLeft rows places k v → k + 2 ≤ slice_index left v
  pub sound : (k v : ℕ) → slice_index left v ≡ k + 2 → (k < n) × StandsLeft rows places k v

-- Whether the edge from rank i to the later rank j is a run: the row of j begins with i, or no later vertex than j has i to its left.
abbrev pub is_run : List ℕ → List ℕ → ℕ → ℕ → Bool
is_run first left i j = (slice_index first j == i) || (slice_index left i == j)

-- how the edge between the vertices of ranks i and j stands at that of rank i: it leaves the one of lower rank and enters the other, as a run or as a rise
abbrev pub end_at : List ℕ → List ℕ → ℕ → ℕ → End
end_at first left i j = if nat_lt i j then if is_run first left i j then run_out else rise_out else if is_run first left j i then run_in else rise_in

-- how the edge between u and v stands at u, by their ranks
abbrev pub end_by : List ℕ → List ℕ → List ℕ → ℕ → ℕ → End
end_by first left ranks u v = end_at first left (slice_index ranks u) (slice_index ranks v)
