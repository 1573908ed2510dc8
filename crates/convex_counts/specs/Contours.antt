-- What holds of the counts of a stage.
use Rattle.std.specs.Prelude.{ℕ, ◌+◌, ◌<◌, ◌≤◌, ◌≡◌}
use Rattle.contour_runs.specs.Runs.{Stage}
use Rattle.contour_runs.specs.Wood.{Coordinates}

-- Along the contour coordinate one does not rise and two does not fall. With m faces made the first vertex has m and 0, the second 0 and m, and the sum of both is at most m for all.
pub record IsFalling (g : Stage) (at : Coordinates) (m : ℕ) : Type 0 where
  pub falls : (i j : ℕ) → i ≤ j → j < g.width → at.one (g.vertex j) ≤ at.one (g.vertex i)
  pub rises : (i j : ℕ) → i ≤ j → j < g.width → at.two (g.vertex i) ≤ at.two (g.vertex j)
  pub first_one : at.one 0 ≡ m
  pub first_two : at.two 0 ≡ 0
  pub second_one : at.one 1 ≡ 0
  pub second_two : at.two 1 ≡ m
  pub sums : (v : ℕ) → v < g.count → at.one v + at.two v ≤ m
