-- Connected graphs with a depth-first tree.
use Rattle.std.specs.Prelude.{ℕ, ◌<◌, ◌≡◌, ◌≢◌, ◌⊎◌, Bool, true, false}
use Rattle.left_right_laws.specs.Forests.{IsForest, IsAbove}
use Rattle.left_right_maps.specs.Orders.{IsEdge}

-- A simple connected graph of n vertices with a rooted tree by depth-first search: of the two ends of each edge, one is above the other.
pub record IsDepthFirstTree (n : ℕ) (joined : ℕ → ℕ → Bool) (parent depth : ℕ → ℕ) (root : ℕ) : Type 0 where
  pub root_in : root < n
  pub top : depth root ≡ 0
  pub others : (v : ℕ) → v < n → v ≢ root → 0 < depth v
  pub in_range : (u v : ℕ) → joined u v ≡ true → u < n
  pub both_ways : (u v : ℕ) → joined u v ≡ true → joined v u ≡ true
  pub no_loop : (v : ℕ) → joined v v ≡ false
  pub forest : IsForest (IsEdge joined) parent depth
  pub on_lines : (u v : ℕ) → joined u v ≡ true → IsAbove parent depth u v ⊎ IsAbove parent depth v u
