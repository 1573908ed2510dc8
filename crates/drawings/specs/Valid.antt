-- When a straight-line drawing is valid: it lies in the grid, is plane, and keeps the order of each list.
use Rattle.std.specs.Prelude.{ℕ, ◌<◌, List, length, ℤ}
use Rattle.map_lists.specs.Lists.{Lists}
use Rattle.pg_plane.specs.declared.grid_points.Point.{Point}
use Rattle.plane_drawings.specs.Drawing.{place, IsInGrid, IsPlaneDrawing, KeepsRotations}

-- all vertices lie in the grid
abbrev pub AllInGrid : Lists → List Point → ℤ → ℤ → Type 0
AllInGrid lists points width height = (v : ℕ) → v < length lists → IsInGrid width height (place points v)

-- all points lie in the grid, the drawing is plane, and the rotations are kept
pub record IsValid (lists : Lists) (points : List Point) (width height : ℤ) : Type 0 where
  pub in_grid : AllInGrid lists points width height
  pub plane : IsPlaneDrawing lists points
  pub rotations : KeepsRotations lists points
