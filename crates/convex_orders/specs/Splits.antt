-- Which vertices of a contour may go, by rows of numbers and counts.
use Rattle.std.specs.Prelude.{ℕ, suc, ◌+◌, ◌<◌, ◌≤◌, ◌≡◌, Bool, true, false, List, length, slice_index}
use Rattle.map_lists.specs.Lists.{Lists}
use Rattle.map_theory.specs.Maps.{list_of}
use Rattle.convex_orders.specs.Shown.{is_set}

-- two rows of numbers below `count`, of one length
pub record AreRowsBelow (own other : List ℕ) (count : ℕ) : Type 0 where
  pub long : length other ≡ length own
  pub own_in : (k : ℕ) → k < length own → slice_index own k < count
  pub other_in : (k : ℕ) → k < length other → slice_index other k < count

-- neither of two numbers in rows is marked
pub record IsOpenAt (own other : List ℕ) (marks : List Bool) (i : ℕ) : Type 0 where
  pub within : i < length own
  pub outside : is_set marks (slice_index own i) ≡ false
  pub inside : is_set marks (slice_index other i) ≡ false

-- of two numbers in rows the first is not marked and the second is
pub record IsRimAt (own other : List ℕ) (marks : List Bool) (i : ℕ) : Type 0 where
  pub within : i < length own
  pub outside : is_set marks (slice_index own i) ≡ false
  pub inside : is_set marks (slice_index other i) ≡ true

-- there is such a place in two rows
pub record HasRim (own other : List ℕ) (marks : List Bool) : Type 0 where
  pub rows : AreRowsBelow own other (length marks)
  pub some : (k : ℕ) × IsRimAt own other marks k

-- each marked number of a row is met at one vertex more than it has edges
abbrev pub NoneSplit : List ℕ → List Bool → List ℕ → List ℕ → Type 0
NoneSplit own marks places edges = (i : ℕ) → i < length own → is_set marks (slice_index own i) ≡ true → slice_index places (slice_index own i) ≡ slice_index edges (slice_index own i) + 1

-- a row at which some entry has no mark, and no marked number is split
pub record IsRemovableRow (own other : List ℕ) (marks : List Bool) (places edges : List ℕ) : Type 0 where
  pub place : ℕ
  pub open_at : IsOpenAt own other marks place
  pub whole : NoneSplit own marks places edges

-- `IsRemovableRow` of the row of the vertex at place j of the list, which is neither the first nor the last
pub record IsRemovablePlace (own other : Lists) (marks : List Bool) (places edges ws : List ℕ) (j : ℕ) : Type 0 where
  pub after : 0 < j
  pub before : suc j < length ws
  pub removable : IsRemovableRow (list_of own (slice_index ws j)) (list_of other (slice_index ws j)) marks places edges

-- Of `many` vertices the edges from place `first` to place `end`, and no others, have numbers that are not marked.
pub record IsGoneRun (number : ℕ → ℕ) (marks : List Bool) (many first end : ℕ) : Type 0 where
  pub order : first < end
  pub within : end < many
  pub gone : (i : ℕ) → first ≤ i → i < end → is_set marks (number i) ≡ false
  pub low : (i : ℕ) → suc i ≡ first → is_set marks (number i) ≡ true
  pub high : suc end < many → is_set marks (number end) ≡ true
