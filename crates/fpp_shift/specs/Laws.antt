-- The laws of the shift method.
use Rattle.std.specs.Prelude.{ℕ, ◌*◌, ◌-◌, ◌≡◌, pos, ◌<ℤ◌}
use Rattle.pg_plane.specs.Geometry.{area}
use Rattle.fpp_shift.specs.Shift.{Places, point_of}
use Rattle.fpp_shift.specs.Opened.{IsOpened}

-- A face so opened is counterclockwise.
abbrev pub OpenedArea : Type 0
OpenedArea = (at : Places) (a b v : ℕ) → IsOpened at a b v → pos 0 <ℤ area (point_of at a) (point_of at b) (point_of at v)

-- the vertex v stands at (x, y)
abbrev pub StandsAt : Places → ℕ → ℕ → ℕ → Type 0
StandsAt at v x y = (at.x v ≡ x) × (at.y v ≡ y)

-- The three corners, where the last of m vertices covers all: the first vertex at (0, 0), the second at (2m - 4, 0), the last at (m - 2, m - 2).
pub record IsCornered (at : Places) (m : ℕ) : Type 0 where
  pub first : StandsAt at 0 0 0
  pub second : StandsAt at 1 (2 * m - 4) 0
  pub top : StandsAt at (m - 1) (m - 2) (m - 2)
