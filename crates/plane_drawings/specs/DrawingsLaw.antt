-- The law of counterclockwise faces.
use Rattle.std.specs.Prelude.{List}
use Rattle.map_lists.specs.Lists.{Lists}
use Rattle.map_theory.specs.Maps.{Dart, HasDart}
use Rattle.plane_laws.specs.Triangulations.{IsTriangulation}
use Rattle.pg_plane.specs.declared.grid_points.Point.{Point}
use Rattle.plane_drawings.specs.Drawing.{IsPlaneDrawing, KeepsRotations, IsCounterclockwise}

-- A counterclockwise drawing of a triangulation is plane and keeps the rotations.
abbrev pub CounterclockwiseIsPlane : Type 0
CounterclockwiseIsPlane =
    (lists : Lists) (points : List Point) (base : Dart) → IsTriangulation lists → HasDart lists base.0 base.1 → IsCounterclockwise lists points base
    → IsPlaneDrawing lists points × KeepsRotations lists points
