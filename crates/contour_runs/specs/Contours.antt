-- What holds of the coordinates of a stage.
use Rattle.std.specs.Prelude.{ℕ, suc, ◌+◌, ◌<◌, ◌≤◌, ◌≡◌}
use Rattle.contour_runs.specs.Runs.{Stage}
use Rattle.contour_runs.specs.Wood.{Coordinates}

-- Along the contour coordinate one falls and two does not fall. With m vertices placed the first has m - 1 and 0 and alone stands at place 0, the second has 0 and m - 2, and the sum of both is at most m - 2 for all but the first.
pub record IsFalling (g : Stage) (at : Coordinates) : Type 0 where
  pub falls : (i j : ℕ) → i < j → j < g.width → at.one (g.vertex j) < at.one (g.vertex i)
  pub rises : (i j : ℕ) → i ≤ j → j < g.width → at.two (g.vertex i) ≤ at.two (g.vertex j)
  pub first_one : suc (at.one 0) ≡ g.count
  pub first_two : at.two 0 ≡ 0
  pub second_one : at.one 1 ≡ 0
  pub second_two : at.two 1 + 2 ≡ g.count
  pub sums : (v : ℕ) → 0 < v → v < g.count → at.one v + at.two v + 2 ≤ g.count
  pub alone : (v : ℕ) → 0 < v → v < g.count → 0 < g.place v
