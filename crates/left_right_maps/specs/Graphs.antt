-- Graphs with a depth-first forest, of which a partition into left and right makes maps.
use Rattle.std.specs.Prelude.{ℕ, ◌<◌, ◌≡◌, ◌⊎◌, ◌↔◌, Bool, true, false, length}
use Rattle.map_lists.specs.Lists.{Lists}
use Rattle.map_theory.specs.Maps.{HasDart, IsSimpleMap, IsPlane}
use Rattle.left_right_laws.specs.Forests.{IsForest, IsAbove, IsLeftRight}
use Rattle.left_right_maps.specs.Orders.{IsEdge}

-- A simple graph of n vertices with a rooted forest by depth-first search: of the two ends of each edge, one is above the other.
pub record IsDepthFirst (n : ℕ) (joined : ℕ → ℕ → Bool) (parent depth : ℕ → ℕ) : Type 0 where
  pub in_range : (u v : ℕ) → joined u v ≡ true → u < n
  pub both_ways : (u v : ℕ) → joined u v ≡ true → joined v u ≡ true
  pub no_loop : (v : ℕ) → joined v v ≡ false
  pub forest : IsForest (IsEdge joined) parent depth
  pub on_lines : (u v : ℕ) → joined u v ≡ true → IsAbove parent depth u v ⊎ IsAbove parent depth v u

-- a map of genus zero with just the edges of a graph
pub record IsMapOfEdges (n : ℕ) (joined : ℕ → ℕ → Bool) (lists : Lists) : Type 0 where
  pub simple : IsSimpleMap lists
  pub plane : IsPlane lists
  pub vertices : length lists ≡ n
  pub edges : (v u : ℕ) → HasDart lists v u ↔ (joined v u ≡ true)

-- A graph with a depth-first forest has a map of genus zero exactly where the edges that return can be parted into left and right.
abbrev pub PlanarByLeftRight : Type 0
PlanarByLeftRight =
    (n : ℕ) (joined : ℕ → ℕ → Bool) (parent depth : ℕ → ℕ) → 0 < n → IsDepthFirst n joined parent depth → ((lists : Lists) × IsMapOfEdges n joined lists) ↔ ((left : ℕ → ℕ → Bool) × IsLeftRight (IsEdge joined) parent depth left)
