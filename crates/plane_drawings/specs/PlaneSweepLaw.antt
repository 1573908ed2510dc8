-- The laws of the sweep.
use Rattle.std.specs.Prelude.{ℕ, ◌<◌, ◌≤◌, ◌≡◌, List, length, All, Contains}
use Rattle.map_lists.specs.Lists.{Lists}
use Rattle.map_theory.specs.Maps.{HasDart, IsSimpleMap}
use Rattle.pg_plane.specs.declared.grid_points.Point.{Point}
use Rattle.plane_drawings.specs.Drawing.{place, IsPlaneDrawing}
use Rattle.plane_drawings.specs.declared.plane_sweep.line.Line.{Line}
use Rattle.plane_drawings.specs.PlaneSweepLines.{AreInOrder, IsLine}
use Rattle.plane_drawings.specs.Steps.{IsSweep}
use Rattle.plane_drawings.specs.Swept.{IsSwept}

-- the point of the i-th vertex
abbrev pub point_at : List Point → (ℕ → ℕ) → ℕ → Point
point_at points vertex i = place points (vertex i)

-- The vertices of a map in the order of the sweep: `vertex i` is the i-th, and `rank v` is the number of v in that order.
pub record IsRanked (n : ℕ) (points : List Point) (vertex rank : ℕ → ℕ) : Type 0 where
  pub within : (v : ℕ) → v < n → rank v < n
  pub back : (v : ℕ) → v < n → vertex (rank v) ≡ v
  pub in_order : AreInOrder n (point_at points vertex)

-- each edge of a map is one of the lines, each of which is a line between two vertices
pub record AreLinesOf (lists : Lists) (rank : ℕ → ℕ) (lines : List Line) : Type 0 where
  pub each_line : All (IsLine (length lists)) lines
  pub each_edge : (u v : ℕ) → HasDart lists u v → rank u < rank v → Contains lines (record { low = rank u; high = rank v })

-- A sweep over points that stand in its order keeps its status.
abbrev pub SweepIsKept : Type 0
SweepIsKept =
    (n : ℕ) (at : ℕ → Point) (lines : List Line) (status : ℕ → List Line) → AreInOrder n at → All (IsLine n) lines → IsSweep at lines n status → (i : ℕ) → i ≤ n → IsSwept at lines i (status i)

-- A drawing of a simple map over which a sweep passes all its tests is plane.
abbrev pub SweepIsPlane : Type 0
SweepIsPlane =
    (lists : Lists) (points : List Point) (vertex rank : ℕ → ℕ) (lines : List Line) (status : ℕ → List Line) → IsSimpleMap lists → IsRanked (length lists) points vertex rank
    → AreLinesOf lists rank lines → IsSweep (point_at points vertex) lines (length lists) status → IsPlaneDrawing lists points
