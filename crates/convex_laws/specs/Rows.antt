-- The steps of a run as rows of numbers, the last step first. A vertex of the run is a rank, which stands for a vertex of a map.
use Rattle.std.specs.Prelude.{ℕ, suc, ◌+◌, ◌<◌, ◌≤◌, ◌≡◌, List, length, slice_index}
use Rattle.map_theory.specs.Maps.{list_of}
use Rattle.contour_runs.specs.Runs.{Stage}
use Rattle.contour_runs.specs.FaceRuns.{Step, stage_after}
use Rattle.convex_laws.specs.declared.convex_rows.rows.ConvexRows.{ConvexRows}

-- the vertices of the contour from the first place of a step to the last
pub record IsRow (row : List ℕ) (g : Stage) (s : Step) (at : ℕ → ℕ) : Type 0 where
  pub long : length row + s.first ≡ suc s.last
  pub each : (i : ℕ) → i < length row → slice_index row i ≡ at (g.vertex (s.first + i))

-- the places in that row between which its faces lie
pub record AreCuts (cuts : List ℕ) (s : Step) : Type 0 where
  pub long : length cuts ≡ suc s.faces
  pub each : (i : ℕ) → i ≤ s.faces → slice_index cuts i + s.first ≡ s.cut i

-- the new vertices
pub record AreNew (news : List ℕ) (g : Stage) (s : Step) (at : ℕ → ℕ) : Type 0 where
  pub long : length news ≡ s.vertices
  pub each : (i : ℕ) → i < length news → slice_index news i ≡ at (g.count + i)

-- step k, which n - 1 - k steps follow, has the lists of that number
pub record AreRows (rows : ConvexRows) (steps : ℕ → Step) (n : ℕ) (at : ℕ → ℕ) : Type 0 where
  pub rows_count : length rows.rows ≡ n
  pub cuts_count : length rows.cuts ≡ n
  pub news_count : length rows.news ≡ n
  pub row : (k j : ℕ) → k + suc j ≡ n → IsRow (list_of rows.rows j) (stage_after steps k) (steps k) at
  pub cuts : (k j : ℕ) → k + suc j ≡ n → AreCuts (list_of rows.cuts j) (steps k)
  pub news : (k j : ℕ) → k + suc j ≡ n → AreNew (list_of rows.news j) (stage_after steps k) (steps k) at

-- each rank stands for a vertex of its own, of the first `count`
pub record AreRanked (steps : ℕ → Step) (n count : ℕ) (at : ℕ → ℕ) : Type 0 where
  pub all : (stage_after steps n).count ≡ count
  pub below : (r : ℕ) → r < count → at r < count
  pub one : (r q : ℕ) → r < count → q < count → at r ≡ at q → r ≡ q
