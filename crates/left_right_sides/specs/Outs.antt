-- Edges that return from a vertex or from below it, whichever of the vertex's edges they return by.
use Rattle.std.specs.Prelude.{ℕ, ◌<◌, ◌≡◌, ◌≢◌, Bool, true}
use Rattle.left_right_laws.specs.Forests.{IsAbove}

-- the edge from t to w goes from v or below it to a proper ancestor of v, and is not the edge from v to its parent
pub record IsOut (edge : ℕ → ℕ → Bool) (parent depth : ℕ → ℕ) (v t w : ℕ) : Type 0 where
  pub has : edge t w ≡ true
  pub under : IsAbove parent depth v t
  pub above : IsAbove parent depth w v
  pub higher : depth w < depth v
  pub away : t ≡ v → w ≢ parent v
