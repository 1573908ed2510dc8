-- The laws of Schnyder's coordinates.
use Rattle.std.specs.Prelude.{ℕ, ◌-◌, ◌≡◌, pos, ◌<ℤ◌}
use Rattle.pg_plane.specs.Geometry.{area}
use Rattle.contour_runs.specs.Wood.{Coordinates, point_of}
use Rattle.contour_runs.specs.Spread.{IsSpread}

-- Three vertices that are spread stand counterclockwise.
abbrev pub SpreadArea : Type 0
SpreadArea = (at : Coordinates) (a b c : ℕ) → IsSpread at a b c → pos 0 <ℤ area (point_of at a) (point_of at b) (point_of at c)

-- the vertex v stands at (x, y)
abbrev pub StandsAt : Coordinates → ℕ → ℕ → ℕ → Type 0
StandsAt at v x y = (at.one v ≡ x) × (at.two v ≡ y)

-- The three corners: the first vertex at (m - 2, 1), the second at (0, m - 2), the last at (1, 0).
pub record IsCornered (at : Coordinates) (m : ℕ) : Type 0 where
  pub first : StandsAt at 0 (m - 2) 1
  pub second : StandsAt at 1 0 (m - 2)
  pub top : StandsAt at (m - 1) 1 0
