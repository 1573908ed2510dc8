-- Graphs with a rooted forest, and their partitions into left and right.
use Rattle.std.specs.Prelude.{ℕ, zero, suc, ◌+◌, ◌-◌, ◌<◌, ◌≤◌, ◌≡◌, ◌≢◌, ◌⊎◌, ◌↔◌, Bool, not}
use Rattle.map_lists.specs.Lists.{Lists}
use Rattle.map_theory.specs.Maps.{HasDart, IsSimpleMap, IsPlane, list_of}
use Rattle.left_right_laws.specs.Ways.{IsInTurn}

-- where k steps from a vertex to its parent lead
abbrev pub up : (ℕ → ℕ) → ℕ → ℕ → ℕ
up parent zero v = v
up parent (suc k) v = up parent k (parent v)

-- a rooted forest of a graph: a vertex of depth 0 is a root, and any other is adjacent to its parent and deeper by one
pub record IsForest (adjacent : ℕ → ℕ → Type 0) (parent depth : ℕ → ℕ) : Type 0 where
  pub edges : (v : ℕ) → 0 < depth v → adjacent v (parent v)
  pub deeper : (v : ℕ) → 0 < depth v → depth v ≡ depth (parent v) + 1

-- u is v or an ancestor of it
pub record IsAbove (parent depth : ℕ → ℕ) (u v : ℕ) : Type 0 where
  pub depths : depth u ≤ depth v
  pub line : up parent (depth v - depth u) v ≡ u

-- e is the vertex after v on the way from v down to t, and then over an edge to w
abbrev pub IsBranch : (ℕ → ℕ) → (ℕ → ℕ) → ℕ → ℕ → ℕ → ℕ → Type 0
IsBranch parent depth v e t w =
    ((t ≡ v) × (e ≡ w)) ⊎ ((t ≢ v) × (e ≡ up parent (depth t - depth v - 1) t))

-- the edge from t to w returns from v by v's edge to e: t is v or under it, w is a proper ancestor of v, and the way from v down to t and then to w begins with e, which is not v's parent
pub record IsReturn (adjacent : ℕ → ℕ → Type 0) (parent depth : ℕ → ℕ) (v e t w : ℕ) : Type 0 where
  pub edge : adjacent t w
  pub higher : depth w < depth v
  pub above : IsAbove parent depth w v
  pub under : IsAbove parent depth v t
  pub branch : IsBranch parent depth v e t w
  pub away : e ≢ parent v

-- A side for each edge that returns, so that at each fork, of two edges from v to e and f, those that return by e to below the end of one that returns by f are all on one side, and those that return by f to below the end of one that returns by e all on the other.
abbrev pub IsLeftRight : (ℕ → ℕ → Type 0) → (ℕ → ℕ) → (ℕ → ℕ) → (ℕ → ℕ → Bool) → Type 0
IsLeftRight adjacent parent depth left =
    (v e f : ℕ) → e ≢ f → (side : Bool) × ((t w s z : ℕ) → IsReturn adjacent parent depth v e t w → IsReturn adjacent parent depth v f s z → (depth z < depth w → left t w ≡ side) × (depth w < depth z → left s z ≡ not side))

-- At a fork of a map of genus zero an edge that returns by e to w, below the end of one that returns by f, stands round w behind the vertex below w, from w's parent on, exactly where e stands round v behind f, from v's parent on.
abbrev pub ForkOrder : Type 0
ForkOrder =
    (lists : Lists) (parent depth : ℕ → ℕ) → IsSimpleMap lists → IsPlane lists → IsForest (HasDart lists) parent depth → (v e f t w s z : ℕ) → e ≢ f → IsReturn (HasDart lists) parent depth v e t w → IsReturn (HasDart lists) parent depth v f s z → depth z < depth w → IsInTurn (list_of lists w) (parent w) (up parent (depth t - depth w - 1) t) t ↔ IsInTurn (list_of lists v) (parent v) f e

-- A graph that has a map of genus zero can be so parted, with any rooted forest.
abbrev pub PlaneIsLeftRight : Type 0
PlaneIsLeftRight =
    (lists : Lists) (parent depth : ℕ → ℕ) → IsSimpleMap lists → IsPlane lists → IsForest (HasDart lists) parent depth → (left : ℕ → ℕ → Bool) × IsLeftRight (HasDart lists) parent depth left
