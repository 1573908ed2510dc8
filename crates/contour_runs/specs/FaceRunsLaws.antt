-- The laws of runs that make faces of any size.
use Rattle.std.specs.Prelude.{ℕ, suc, ◌<◌, ◌≡◌}
use Rattle.contour_runs.specs.Runs.{Stage}

-- The dart (x, y) goes along the contour, from a place to the next.
pub record GoesAlong (g : Stage) (x y i : ℕ) : Type 0 where
  pub within : suc i < g.width
  pub tail : g.vertex i ≡ x
  pub head : g.vertex (suc i) ≡ y
