-- The row of a removal, and what rows of removals have to do with runs of a map.
use Rattle.std.specs.Prelude.{ℕ, suc, ◌+◌, ◌<◌, ◌≤◌, ◌≡◌, List, [], ◌∷◌, ◌++◌, length, slice_index}
use Rattle.map_lists.specs.Lists.{Lists}
use Rattle.contour_runs.specs.FaceRuns.{Step}
use Rattle.convex_peeling.specs.Removals.{Removal}
use Rattle.convex_laws.specs.Rows.{AreRows, AreRanked}
use Rattle.convex_laws.specs.declared.convex_rows.rows.ConvexRows.{ConvexRows}
use Rattle.convex_laws.specs.RunsOfMaps.{IsRunOf}

-- The row of a removal from the contour w: the new contour from its first place to its last, the cuts as places in that row, and the vertices that go.
pub record IsRowOf (lists : Lists) (w : ℕ → ℕ) (o : Removal) (row cuts news : List ℕ) : Type 0 where
  pub row_long : length row + o.first ≡ suc o.last
  pub row_each : (i : ℕ) → i < length row → slice_index row i ≡ o.contour (o.first + i)
  pub row_in : (i : ℕ) → i < length row → slice_index row i < length lists
  pub cuts_long : length cuts ≡ suc o.faces
  pub cuts_each : (i : ℕ) → i ≤ o.faces → slice_index cuts i + o.first ≡ o.cut i
  pub news_long : length news ≡ o.vertices
  pub news_each : (i : ℕ) → i < length news → slice_index news i ≡ w (suc (o.first + i))
  pub news_in : (i : ℕ) → i < length news → slice_index news i < length lists

-- The rows of one removal more.
pub record IsRowMore (lists : Lists) (w : ℕ → ℕ) (o : Removal) (old new : ConvexRows) : Type 0 where
  pub row : List ℕ
  pub cuts : List ℕ
  pub news : List ℕ
  pub is : IsRowOf lists w o row cuts news
  pub rows_are : new.rows ≡ old.rows ++ row ∷ []
  pub cuts_are : new.cuts ≡ old.cuts ++ cuts ∷ []
  pub news_are : new.news ≡ old.news ++ news ∷ []

-- There are m rows of each kind.
pub record HasRows (rows : ConvexRows) (m : ℕ) : Type 0 where
  pub rows_count : length rows.rows ≡ m
  pub cuts_count : length rows.cuts ≡ m
  pub news_count : length rows.news ≡ m

-- The rows are those of a run of the map from the base (s, d), each rank of which stands for a vertex.
pub record AreRowsOfRun (lists : Lists) (s d : ℕ) (rows : ConvexRows) : Type 0 where
  pub steps : ℕ → Step
  pub n : ℕ
  pub rank : ℕ → ℕ
  pub face : ℕ → ℕ → ℕ
  pub at : ℕ → ℕ
  pub run : IsRunOf lists s d steps n rank face
  pub rows_are : AreRows rows steps n at
  pub ranked : AreRanked steps n (length lists) at
  pub named : (v : ℕ) → v < length lists → at (rank v) ≡ v
