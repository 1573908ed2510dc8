-- Drawings of triangulations by Schnyder's coordinates.
use Rattle.std.specs.Prelude.{ℕ, ◌-◌, ◌<◌, ◌≡◌, List, length, slice_index, pos}
use Rattle.map_lists.specs.Lists.{Lists}
use Rattle.map_theory.specs.Maps.{Dart, HasDart, follows, vertex_count}
use Rattle.plane_laws.specs.Triangulations.{IsTriangulation}
use Rattle.pg_plane.specs.declared.figures.GridFigure.{GridFigure}
use Rattle.pg_plane.specs.declared.grid_points.Point.{Point}
use Rattle.plane_drawings.specs.Drawing.{place, IsInGrid, IsPlaneDrawing, KeepsRotations, IsCounterclockwise}
use Rattle.canon_order.specs.Orders.{IsCanonicalOrder}
use Rattle.contour_runs.specs.Runs.{Step}
use Rattle.order_drawings.specs.OrderRuns.{IsOrderRun}
use Rattle.contour_runs.specs.Wood.{wood_points, point_of}

-- The points are those of Schnyder's coordinates over a canonical order: of its run, where all vertices are placed.
pub record AreWoodPoints (lists : Lists) (base : Dart) (at : List ℕ) (cycle : ℕ → List ℕ) (points : List Point) : Type 0 where
  pub steps : ℕ → Step
  pub order : IsOrderRun lists base at cycle steps
  pub count : length points ≡ length lists
  pub placed : (k : ℕ) → k < length at → place points (slice_index at k) ≡ point_of (wood_points steps (length at - 2)) k

-- A plane drawing in the grid n - 2 by n - 2 that keeps the rotations, with the face of the base outside. Its three vertices, the roots, stand at the corners: the head of the base, root one, at (n - 2, 1), its tail, root two, at (0, n - 2), and root three at (1, 0).
pub record IsSchnyderDrawing (lists : Lists) (base : Dart) (points : List Point) : Type 0 where
  pub counterclockwise : IsCounterclockwise lists points base
  pub plane : IsPlaneDrawing lists points
  pub rotations : KeepsRotations lists points
  pub grid : (v : ℕ) → v < length lists → IsInGrid (pos (length lists - 2)) (pos (length lists - 2)) (place points v)
  pub root_one : place points base.1 ≡ record { x = pos (length lists - 2); y = pos 1 }
  pub root_two : place points base.0 ≡ record { x = pos 0; y = pos (length lists - 2) }
  pub root_three : place points (follows lists base.1 base.0) ≡ record { x = pos 1; y = pos 0 }

-- The figure of the triangulation with these lists by Schnyder's coordinates over an order, for each base that the order is for.
pub record IsSchnyderOf (lists : Lists) (at : List ℕ) (figure : GridFigure) : Type 0 where
  pub points : (base : Dart) (canonical : IsCanonicalOrder lists base at) → AreWoodPoints lists base at canonical.cycle figure.points
  pub drawing : (base : Dart) → HasDart lists base.0 base.1 → IsCanonicalOrder lists base at → IsSchnyderDrawing lists base figure.points
  pub width : figure.width ≡ pos (vertex_count lists - 2)
  pub height : figure.height ≡ pos (vertex_count lists - 2)

-- Points by Schnyder's coordinates over a canonical order are such a drawing.
abbrev pub WoodPointsDraw : Type 0
WoodPointsDraw =
    (lists : Lists) (base : Dart) (at : List ℕ) (points : List Point) → IsTriangulation lists → HasDart lists base.0 base.1 → (order : IsCanonicalOrder lists base at) → AreWoodPoints lists base at order.cycle points → IsSchnyderDrawing lists base points

-- Each canonical order has points by Schnyder's coordinates.
abbrev pub SomeWoodPoints : Type 0
SomeWoodPoints =
    (lists : Lists) (base : Dart) (at : List ℕ) → IsTriangulation lists → (order : IsCanonicalOrder lists base at) → (points : List Point) × AreWoodPoints lists base at order.cycle points

-- Each triangulation has a drawing by Schnyder's coordinates, for each base dart.
abbrev pub SomeSchnyderDrawing : Type 0
SomeSchnyderDrawing = (lists : Lists) (base : Dart) → IsTriangulation lists → HasDart lists base.0 base.1 → (points : List Point) × IsSchnyderDrawing lists base points
