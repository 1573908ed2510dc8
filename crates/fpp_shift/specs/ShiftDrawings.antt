-- Drawings of triangulations by shift points.
use Rattle.std.specs.Prelude.{ℕ, ◌-◌, ◌*◌, ◌<◌, ◌≡◌, List, length, slice_index, pos}
use Rattle.map_lists.specs.Lists.{Lists}
use Rattle.map_theory.specs.Maps.{Dart, HasDart, follows, vertex_count}
use Rattle.plane_laws.specs.Triangulations.{IsTriangulation}
use Rattle.pg_plane.specs.declared.figures.GridFigure.{GridFigure}
use Rattle.pg_plane.specs.declared.grid_points.Point.{Point}
use Rattle.plane_drawings.specs.Drawing.{place, IsInGrid, IsPlaneDrawing, KeepsRotations, IsCounterclockwise}
use Rattle.canon_order.specs.Orders.{IsCanonicalOrder}
use Rattle.contour_runs.specs.Runs.{Step}
use Rattle.order_drawings.specs.OrderRuns.{IsOrderRun}
use Rattle.fpp_shift.specs.Shift.{shift_points, point_of}

-- The points are the shift points of a canonical order: those of its run, where all vertices are placed.
pub record AreShiftPoints (lists : Lists) (base : Dart) (at : List ℕ) (cycle : ℕ → List ℕ) (points : List Point) : Type 0 where
  pub steps : ℕ → Step
  pub order : IsOrderRun lists base at cycle steps
  pub count : length points ≡ length lists
  pub placed : (k : ℕ) → k < length at → place points (slice_index at k) ≡ point_of (shift_points steps (length at - 2)) k

-- A plane drawing in the grid 2n - 4 by n - 2 that keeps the rotations, with the face of the base outside and its three vertices at the corners.
pub record IsShiftDrawing (lists : Lists) (base : Dart) (points : List Point) : Type 0 where
  pub counterclockwise : IsCounterclockwise lists points base
  pub plane : IsPlaneDrawing lists points
  pub rotations : KeepsRotations lists points
  pub grid : (v : ℕ) → v < length lists → IsInGrid (pos (2 * length lists - 4)) (pos (length lists - 2)) (place points v)
  pub first : place points base.1 ≡ record { x = pos 0; y = pos 0 }
  pub second : place points base.0 ≡ record { x = pos (2 * length lists - 4); y = pos 0 }
  pub top : place points (follows lists base.1 base.0) ≡ record { x = pos (length lists - 2); y = pos (length lists - 2) }

-- The figure of the triangulation with these lists by the shift method over an order, for each base that the order is for.
pub record IsShiftOf (lists : Lists) (at : List ℕ) (figure : GridFigure) : Type 0 where
  pub points : (base : Dart) (canonical : IsCanonicalOrder lists base at) → AreShiftPoints lists base at canonical.cycle figure.points
  pub drawing : (base : Dart) → HasDart lists base.0 base.1 → IsCanonicalOrder lists base at → IsShiftDrawing lists base figure.points
  pub width : figure.width ≡ pos (2 * vertex_count lists - 4)
  pub height : figure.height ≡ pos (vertex_count lists - 2)

-- Shift points are such a drawing.
abbrev pub ShiftPointsDraw : Type 0
ShiftPointsDraw =
    (lists : Lists) (base : Dart) (at : List ℕ) (points : List Point) → IsTriangulation lists → HasDart lists base.0 base.1 → (order : IsCanonicalOrder lists base at) → AreShiftPoints lists base at order.cycle points → IsShiftDrawing lists base points

-- Each canonical order has shift points.
abbrev pub SomeShiftPoints : Type 0
SomeShiftPoints =
    (lists : Lists) (base : Dart) (at : List ℕ) → IsTriangulation lists → (order : IsCanonicalOrder lists base at) → (points : List Point) × AreShiftPoints lists base at order.cycle points

-- Each triangulation has a drawing by shift points, for each base dart.
abbrev pub SomeShiftDrawing : Type 0
SomeShiftDrawing = (lists : Lists) (base : Dart) → IsTriangulation lists → HasDart lists base.0 base.1 → (points : List Point) × IsShiftDrawing lists base points
