-- Drawings of triangulations by the run of a canonical order.
use Rattle.std.specs.Prelude.{ℕ, ◌+◌, ◌-◌, ◌<◌, ◌≡◌, List, length, slice_index, pos, ◌<ℤ◌}
use Rattle.map_lists.specs.Lists.{Lists}
use Rattle.map_theory.specs.Maps.{Dart, HasDart, follows}
use Rattle.plane_laws.specs.Triangulations.{IsTriangulation}
use Rattle.pg_plane.specs.declared.grid_points.Point.{Point}
use Rattle.pg_plane.specs.Geometry.{area}
use Rattle.plane_drawings.specs.Drawing.{place, IsPlaneDrawing, KeepsRotations, IsCounterclockwise}
use Rattle.canon_order.specs.Orders.{IsCanonicalOrder}
use Rattle.contour_runs.specs.Runs.{Step, IsFaceOf}
use Rattle.order_drawings.specs.OrderRuns.{IsOrderRun}

-- each vertex of an order stands at the point of its place there
abbrev pub ArePlacedBy : List ℕ → (ℕ → Point) → List Point → Type 0
ArePlacedBy at point points = (k : ℕ) → k < length at → place points (slice_index at k) ≡ point k

-- Points for the m vertices of a run by which each face that it makes is counterclockwise, and the face on the other side of the base is clockwise.
pub record IsCounterclockwiseRun (steps : ℕ → Step) (m : ℕ) (point : ℕ → Point) : Type 0 where
  pub made : (k i a b v : ℕ) → k + 2 < m → IsFaceOf steps k i a b v → pos 0 <ℤ area (point a) (point b) (point v)
  pub outside : area (point 1) (point 0) (point (m - 1)) <ℤ pos 0

-- A plane drawing that keeps the rotations, with the face of the base outside. Each vertex stands at one of the points; the three of the base at the first two and at the last.
pub record IsRunDrawing (lists : Lists) (base : Dart) (point : ℕ → Point) (points : List Point) : Type 0 where
  pub counterclockwise : IsCounterclockwise lists points base
  pub plane : IsPlaneDrawing lists points
  pub rotations : KeepsRotations lists points
  pub each : (v : ℕ) → v < length lists → (k : ℕ) × (k < length lists) × (place points v ≡ point k)
  pub first : place points base.1 ≡ point 0
  pub second : place points base.0 ≡ point 1
  pub top : place points (follows lists base.1 base.0) ≡ point (length lists - 1)

-- Points by which each face of the run of a canonical order is counterclockwise are such a drawing.
abbrev pub CounterclockwiseRunDraws : Type 0
CounterclockwiseRunDraws =
    (lists : Lists) (base : Dart) (at : List ℕ) (steps : ℕ → Step) (point : ℕ → Point) (points : List Point) → IsTriangulation lists → HasDart lists base.0 base.1 → (order : IsCanonicalOrder lists base at) → IsOrderRun lists base at order.cycle steps
    → IsCounterclockwiseRun steps (length at) point → ArePlacedBy at point points → IsRunDrawing lists base point points

-- There are points of vertices for any points of the places of an order.
abbrev pub PointsOfOrder : Type 0
PointsOfOrder =
    (lists : Lists) (base : Dart) (at : List ℕ) (point : ℕ → Point) → IsCanonicalOrder lists base at → (points : List Point) × (length points ≡ length lists) × ArePlacedBy at point points
