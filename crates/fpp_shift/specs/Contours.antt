-- What holds of the points of a contour.
use Rattle.std.specs.Prelude.{ℕ, ◌+◌, ◌*◌, ◌%◌, ◌<◌, ◌≤◌, ◌≡◌}
use Rattle.contour_runs.specs.Runs.{Stage}
use Rattle.fpp_shift.specs.Shift.{Places}

-- Along the contour neither x - y nor x + y falls, and from three vertices on x rises; x + y is even. The first vertex stands at (0, 0) and the second at (2m - 4, 0), where m vertices are placed, and all of them have x and y from 0 to 2m - 4 and to m - 2.
pub record IsShift (g : Stage) (at : Places) : Type 0 where
  pub across : (i j : ℕ) → i ≤ j → j < g.width → at.x (g.vertex i) + at.y (g.vertex j) ≤ at.x (g.vertex j) + at.y (g.vertex i)
  pub along : (i j : ℕ) → i ≤ j → j < g.width → at.x (g.vertex i) + at.y (g.vertex i) ≤ at.x (g.vertex j) + at.y (g.vertex j)
  pub right : (i j : ℕ) → 3 ≤ g.count → i < j → j < g.width → at.x (g.vertex i) < at.x (g.vertex j)
  pub even : (i : ℕ) → i < g.width → (at.x (g.vertex i) + at.y (g.vertex i)) % 2 ≡ 0
  pub first_x : at.x 0 ≡ 0
  pub first_y : at.y 0 ≡ 0
  pub second_x : at.x 1 + 4 ≡ 2 * g.count
  pub second_y : at.y 1 ≡ 0
  pub wide : (v : ℕ) → v < g.count → at.x v + 4 ≤ 2 * g.count
  pub high : (v : ℕ) → v < g.count → at.y v + 2 ≤ g.count
