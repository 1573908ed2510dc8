-- Where the edges along a list go over from one number to another.
use Rattle.std.specs.Prelude.{ℕ, suc, ◌+◌, ◌<◌, ◌≤◌, ◌≡◌, ◌≢◌, List, [], ◌∷◌, ◌++◌, length, reverse, slice_index, slice_range}
use Rattle.convex_laws.specs.declared.convex_rows.rows.ConvexRows.{ConvexRows}
use Rattle.map_lists.specs.Lists.{Lists}
use Rattle.convex_orders.specs.FaceNumbers.{entry}

-- the number of the edge from place p to the next
abbrev pub edge_number : Lists → Lists → List ℕ → ℕ → ℕ
edge_number lists own ws p = entry lists own (slice_index ws p) (slice_index ws (suc p))

-- The cuts are places from `first` to `last`; between two of them edges have one number, and at a cut it changes.
pub record AreCutPlaces (number : ℕ → ℕ) (first last : ℕ) (faces : ℕ) (cut : ℕ → ℕ) : Type 0 where
  pub some : 0 < faces
  pub begin : cut 0 ≡ first
  pub end : cut faces ≡ last
  pub rises : (i : ℕ) → i < faces → cut i < cut (suc i)
  pub same : (i p : ℕ) → i < faces → cut i ≤ p → suc p < cut (suc i) → number p ≡ number (suc p)
  pub changes : (i p : ℕ) → suc i < faces → suc p ≡ cut (suc i) → number p ≢ number (suc p)

-- a row of the cuts, as places behind the first
pub record IsCutRow (row : List ℕ) (first faces : ℕ) (cut : ℕ → ℕ) : Type 0 where
  pub long : length row ≡ suc faces
  pub each : (i : ℕ) → i ≤ faces → slice_index row i + first ≡ cut i

-- A row more, from place `first` to place `last` of the list, with its cuts.
pub record IsPutIn (us : List ℕ) (first last faces : ℕ) (cut : ℕ → ℕ) (old new : ConvexRows) : Type 0 where
  pub cuts : List ℕ
  pub cut_row : IsCutRow cuts first faces cut
  pub rows_are : new.rows ≡ old.rows ++ slice_range us first (last + 1) ∷ []
  pub cuts_are : new.cuts ≡ old.cuts ++ cuts ∷ []
  pub news_are : new.news ≡ old.news

-- What stood strictly between two places of the contour `ws` is taken out, and has its row: `left` has what stood up to the first place, `right` what stands behind the end, the last first.
pub record IsTakenOut (ws left right : List ℕ) (x first end : ℕ) (old new : ConvexRows) : Type 0 where
  pub left_long : length left ≡ suc first
  pub left_each : (i : ℕ) → i ≤ first → slice_index left i ≡ slice_index ws i
  pub right_long : length right + suc end ≡ length ws
  pub right_each : (q : ℕ) → q < length right → slice_index (reverse right) q ≡ slice_index ws (suc end + q)
  pub end_is : x ≡ slice_index ws end
  pub news : List ℕ
  pub news_long : length news + suc first ≡ end
  pub news_each : (i : ℕ) → i < length news → slice_index news i ≡ slice_index ws (suc first + i)
  pub rows_are : new.rows ≡ old.rows
  pub cuts_are : new.cuts ≡ old.cuts
  pub news_are : new.news ≡ old.news ++ news ∷ []
