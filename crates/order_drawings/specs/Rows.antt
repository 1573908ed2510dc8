-- The rows of the contour over which the vertices of a run are put.
use Rattle.std.specs.Prelude.{ℕ, zero, suc, ◌+◌, ◌-◌, ◌<◌, ◌≤◌, ◌≡◌, ◌⊎◌, ◌==◌, nat_lt, if◌then◌else◌, List, ◌++◌, length, map, slice_index}
use Rattle.map_lists.specs.Lists.{Lists}
use Rattle.map_theory.specs.Maps.{Dart, list_of}
use Rattle.plane_laws.specs.Triangulations.{IsTriangulation}
use Rattle.canon_order.specs.Orders.{IsCanonicalOrder, IsRankOf}
use Rattle.order_drawings.specs.OrderRuns.{IsOrderRun}
use Rattle.contour_runs.specs.Runs.{Step, Stage, stage_after, IsRun}

-- the vertices of the contour from the first place of a step to its last
pub record IsRow (g : Stage) (s : Step) (row : List ℕ) : Type 0 where
  pub count : length row + s.first ≡ suc s.last
  pub each : (i : ℕ) → i < length row → slice_index row i ≡ g.vertex (s.first + i)

-- the rows of all steps of a run
pub record AreRows (steps : ℕ → Step) (rows : Lists) : Type 0 where
  pub run : IsRun steps (length rows)
  pub row : (k : ℕ) → k < length rows → IsRow (stage_after steps k) (steps k) (list_of rows k)

-- These are all rows, at least one, of a run whose last vertex covers all but the base.
pub record AreAllRows (steps : ℕ → Step) (rows : Lists) : Type 0 where
  pub rows_are : AreRows steps rows
  pub some : 1 ≤ length rows
  pub end : (stage_after steps (length rows)).width ≡ 3

-- the place before a place of a list of n, cyclically
abbrev pub place_before : ℕ → ℕ → ℕ
place_before n i = if i == 0 then n - 1 else i - 1

-- the place after it
abbrev pub place_after : ℕ → ℕ → ℕ
place_after n i = if nat_lt (i + 1) n then i + 1 else 0

-- the place that is the given number of places before i, cyclically
abbrev pub back : ℕ → ℕ → ℕ → ℕ
back n i zero = i
back n i (suc c) = place_before n (back n i c)

-- the rank of an entry
abbrev pub rank_at : List ℕ → List ℕ → ℕ → ℕ
rank_at list ranks i = slice_index ranks (slice_index list i)

-- The row of the vertex of rank k begins at this place of its list: the entry is of a lower rank, and it is the first vertex of all or the next entry is of a higher one.
pub record IsFirstPlace (list ranks : List ℕ) (k i : ℕ) : Type 0 where
  pub earlier : rank_at list ranks i < k
  pub begins : (rank_at list ranks i ≡ 0) ⊎ (k ≤ rank_at list ranks (place_after (length list) i))

-- It ends there: the entry is the second vertex of all, or the one before it is of a higher rank.
abbrev pub IsLastPlace : List ℕ → List ℕ → ℕ → ℕ → Type 0
IsLastPlace list ranks k i = (rank_at list ranks i ≡ 1) ⊎ (k ≤ rank_at list ranks (place_before (length list) i))

-- Backwards from the place `start` of a list, the only one where a row begins, stand the entries us, up to the first place where a row ends.
pub record IsRowIn (list ranks : List ℕ) (k start : ℕ) (us : List ℕ) : Type 0 where
  pub begin : start < length list
  pub some : 0 < length us
  pub short : length us ≤ length list
  pub entries : (c : ℕ) → c < length us → slice_index list (back (length list) start c) ≡ slice_index us c
  pub first : IsFirstPlace list ranks k start
  pub only : (i : ℕ) → i < length list → IsFirstPlace list ranks k i → i ≡ start
  pub inner : (c : ℕ) → suc c < length us → ¬ IsLastPlace list ranks k (back (length list) start c)
  pub last : (c : ℕ) → suc c ≡ length us → IsLastPlace list ranks k (back (length list) start c)

-- A row is put behind others: that from this place on, by ranks.
pub record IsRowPut (list ranks : List ℕ) (k start : ℕ) (old new : List ℕ) : Type 0 where
  pub row : List ℕ
  pub grown : new ≡ old ++ row
  pub is : (us : List ℕ) → IsRowIn list ranks k start us → row ≡ map (slice_index ranks) us

-- the rows in the lists of a map of the first vertices from the third on, by ranks
abbrev pub AreRanked : Lists → List ℕ → List ℕ → Lists → Type 0
AreRanked lists at ranks rows =
    (k start : ℕ) (us : List ℕ) → k < length rows → IsRowIn (list_of lists (slice_index at (k + 2))) ranks (k + 2) start us → list_of rows k ≡ map (slice_index ranks) us

-- In the list of the vertex of rank k + 2 stands a row, which by ranks is that of the step k.
pub record IsOrderRow (list ranks : List ℕ) (steps : ℕ → Step) (k : ℕ) : Type 0 where
  pub start : ℕ
  pub us : List ℕ
  pub found : IsRowIn list ranks (k + 2) start us
  pub row : IsRow (stage_after steps k) (steps k) (map (slice_index ranks) us)

-- The list of each vertex of a canonical order, from the third on, has the row of its step, for each run of the order.
abbrev pub OrderRows : Type 0
OrderRows =
    (lists : Lists) (base : Dart) (at ranks : List ℕ) → IsTriangulation lists → (order : IsCanonicalOrder lists base at) → IsRankOf ranks at → (steps : ℕ → Step) → IsOrderRun lists base at order.cycle steps
    → (k : ℕ) → k + 2 < length at → IsOrderRow (list_of lists (slice_index at (k + 2))) ranks steps k

-- These are the rows of an order with the vertices `at`: one for each from the third on, and those of the run of each canonical order that these are.
pub record AreRowsOf (lists : Lists) (at : List ℕ) (rows : Lists) : Type 0 where
  pub count : length rows + 2 ≡ length at
  pub of_run : (base : Dart) (order : IsCanonicalOrder lists base at) (steps : ℕ → Step) → IsOrderRun lists base at order.cycle steps → AreAllRows steps rows
