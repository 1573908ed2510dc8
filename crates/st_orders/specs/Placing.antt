-- How vertices are given places, by rising numbers of a search: each has a range of places, of which its children take theirs from below or from above. In the end the least place of its range is its own.
use Rattle.std.specs.Prelude.{ℕ, ◌+◌, ◌<◌, ◌≤◌, ◌≡◌, ◌≢◌, ◌⊎◌, Bool, true, false, not, List, length, slice_index, slice_index_or}
use Rattle.map_lists.specs.Lists.{Lists}
use Rattle.graph_search.specs.Forests.{Holds, IsForest}
use Rattle.graph_search.specs.Lows.{IsWithin, IsLow}
use Rattle.graph_search.specs.declared.search_forests.forest.Forest.{Forest}
use Rattle.st_orders.specs.StOrders.{IsStOrder}
use Rattle.st_orders.specs.declared.place_ranges.Ranges.{Ranges}

-- A search of a connected map without cut vertices, from s, with t next: s alone has no parent and t alone is its child, and each further vertex has a low point before its parent.
pub record IsWholeForest (lists : Lists) (order number last parent low : ℕ → ℕ) (s t : ℕ) : Type 0 where
  pub forest : IsForest lists order number last parent
  pub lows : (v : ℕ) → v < length lists → IsLow lists number last v (low v)
  pub s_in : s < length lists
  pub t_in : t < length lists
  pub s_first : number s ≡ 0
  pub t_second : number t ≡ 1
  pub has_parent : (v : ℕ) → v < length lists → 0 < number v → parent v < length lists
  pub beyond : (v : ℕ) → v < length lists → 2 ≤ number v → low v < number (parent v)

-- The vertices numbered below k have ranges: from `from` on and before `to`. `side` says of each whether it took its range from below its parent's, so that it stands before the parent, and `recent` has the side of each vertex's last child.
pub record IsPlacing (lists : Lists) (order number last parent low : ℕ → ℕ) (t : ℕ) (from to : ℕ → ℕ) (side recent : ℕ → Bool) (k : ℕ) : Type 0 where
  pub inside : (v : ℕ) → v < length lists → number v < k → to v ≤ length lists
  pub some : (v : ℕ) → v < length lists → number v < k → from v < to v
  pub apart : (u v : ℕ) → u < length lists → v < length lists → number u < k → number v < k → u ≢ v → (to u ≤ from v) ⊎ (to v ≤ from u)
  -- what is left is enough for the vertices to come
  pub room : (v : ℕ) → v < length lists → k ≤ number v → parent v < length lists → number (parent v) < k → last (parent v) + 1 + from (parent v) ≤ number v + to (parent v)
  -- a vertex stands before what is within its child c, or after it
  pub before : (a c : ℕ) → a < length lists → c < length lists → number a < k → parent c < length lists → IsWithin number last c a → side c ≡ true → to a ≤ from (parent c)
  pub after : (a c : ℕ) → a < length lists → c < length lists → number a < k → parent c < length lists → IsWithin number last c a → side c ≡ false → to (parent c) ≤ from a
  pub recent_side : (c : ℕ) → c < length lists → number c < k → k < last c → parent c < length lists → recent (parent c) ≡ side c
  -- a vertex is on the other side than the child, towards it, of the vertex at its low point
  pub rule : (v c : ℕ) → v < length lists → c < length lists → number v < k → 2 ≤ number v → parent c ≡ order (low v) → Holds number last c v → side v ≡ not (side c)
  pub first : side t ≡ false

-- v takes its range from that of its parent p: from below where `below`, else from above
pub record IsCarved (from to from' to' : ℕ → ℕ) (v p size : ℕ) (below : Bool) : Type 0 where
  pub elsewhere_from : (x : ℕ) → x ≢ v → x ≢ p → from' x ≡ from x
  pub elsewhere_to : (x : ℕ) → x ≢ v → x ≢ p → to' x ≡ to x
  pub range : from' v + size ≡ to' v
  pub start : from p ≤ from' v
  pub end : to' v ≤ to p
  pub rest_start : from p ≤ from' p
  pub rest_end : to' p ≤ to p
  pub rest : to' p + from p + size ≡ to p + from' p
  pub rest_some : from' p < to' p
  pub before : below ≡ true → to' v ≤ from' p
  pub after : below ≡ false → to' p ≤ from' v

-- a test with another value at one place
pub record IsMarked (old new : ℕ → Bool) (place : ℕ) (value : Bool) : Type 0 where
  pub here : new place ≡ value
  pub elsewhere : (v : ℕ) → v ≢ place → new v ≡ old v

-- A search in tables with an entry for each vertex, where s and t are those numbered 0 and 1.
pub record IsWholeSearch (lists : Lists) (order number last parent low : List ℕ) : Type 0 where
  pub orders : length order ≡ length lists
  pub numbers : length number ≡ length lists
  pub lasts : length last ≡ length lists
  pub parents : length parent ≡ length lists
  pub lows : length low ≡ length lists
  pub whole : IsWholeForest lists (λ k. slice_index order k) (λ v. slice_index number v) (λ v. slice_index last v) (λ v. slice_index parent v) (λ v. slice_index low v) (slice_index order 0) (slice_index order 1)

-- the ranges, and what goes with them, have an entry for each vertex
pub record AreTables (lists : Lists) (from to : List ℕ) (recent : List Bool) : Type 0 where
  pub froms : length from ≡ length lists
  pub tos : length to ≡ length lists
  pub recents : length recent ≡ length lists

-- `IsPlacing` of tables with an entry for each vertex; the sides are in no table
pub record IsPlacingIn (lists : Lists) (order number last parent low from to : List ℕ) (recent : List Bool) (k : ℕ) : Type 0 where
  pub side : ℕ → Bool
  pub tables : AreTables lists from to recent
  pub placing : IsPlacing lists (λ i. slice_index order i) (λ v. slice_index number v) (λ v. slice_index last v) (λ v. slice_index parent v) (λ v. slice_index low v) (slice_index order 1) (λ v. slice_index from v) (λ v. slice_index to v) side (λ v. slice_index_or recent v false) k

-- `IsWholeSearch` of the tables of a search as the code has it, with its low points
abbrev pub IsWholeBy : Lists → Forest → (low : List ℕ) → Type 0
IsWholeBy lists forest low = IsWholeSearch lists forest.order.items forest.number.items forest.last.items forest.parent.items low

-- `IsPlacingIn` of these tables and the ranges: the vertices numbered below k have their ranges
abbrev pub ArePlacedBelow : Lists → Forest → (low : List ℕ) → Ranges → ℕ → Type 0
ArePlacedBelow lists forest low ranges k = IsPlacingIn lists forest.order.items forest.number.items forest.last.items forest.parent.items low ranges.from.items ranges.to.items ranges.recent.items k

-- Different places below the number of vertices, which with the vertices at them are an st-order.
pub record ArePlaces (lists : Lists) (s t : ℕ) (from : List ℕ) : Type 0 where
  pub count : length from ≡ length lists
  pub within : (v : ℕ) → v < length lists → slice_index from v < length lists
  pub apart : (u v : ℕ) → u < length lists → v < length lists → slice_index from u ≡ slice_index from v → u ≡ v
  pub order_of : (at : List ℕ) → length at ≡ length lists → ((v : ℕ) → v < length lists → slice_index at (slice_index from v) ≡ v) → IsStOrder lists s t at from
