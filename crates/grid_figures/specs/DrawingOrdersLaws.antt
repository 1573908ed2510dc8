-- Which lists have a drawing, and what a drawing of a completion is of the map.
use Rattle.std.specs.Prelude.{ℕ, ◌≤◌, List, ℤ}
use Rattle.map_lists.specs.Lists.{Lists}
use Rattle.map_theory.specs.Maps.{IsSimpleMap, IsPlane, vertex_count}
use Rattle.plane_laws.specs.Triangulations.{IsTriangulation}
use Rattle.plane_laws.specs.MapEditsCompleted.{IsExtended}
use Rattle.half_edges.specs.Map.{first_dart}
use Rattle.pg_plane.specs.declared.grid_points.Point.{Point}
use Rattle.plane_drawings.specs.Drawing.{IsPlaneDrawing, KeepsRotations, IsCounterclockwise}
use Rattle.drawings.specs.Valid.{AllInGrid}
use Rattle.drawings.specs.Valid.{IsValid}
use Rattle.drawings.specs.OuterFaces.{HasOuterFace}
use Rattle.grid_figures.specs.Orders.{IsBaseTo}

-- a completion of the map of `lists`, with a base to `to`
pub record IsCompletionFor (lists more : Lists) (to : ℕ) : Type 0 where
  pub simple : IsSimpleMap lists
  pub triangulation : IsTriangulation more
  pub extended : IsExtended lists more
  pub base : IsBaseTo lists more to

-- a plane drawing of a triangulation in a grid, which keeps the rotations and has all faces but that of the dart from vertex 0 to `to` counterclockwise
pub record IsBaseDrawing (lists : Lists) (to : ℕ) (points : List Point) (width height : ℤ) : Type 0 where
  pub counterclockwise : IsCounterclockwise lists points (0, to)
  pub plane : IsPlaneDrawing lists points
  pub rotations : KeepsRotations lists points
  pub grid : AllInGrid lists points width height

-- Such a drawing of a completion is a valid one of the map, and where the map is connected it has the face of vertex 0's first dart outside.
abbrev pub CompletionDraws : Type 0
CompletionDraws =
    (lists more : Lists) (to : ℕ) (points : List Point) (width height : ℤ) → IsCompletionFor lists more to → IsBaseDrawing more to points width height → IsValid lists points width height × HasOuterFace lists points (first_dart lists 0)

-- Each simple map of genus zero with at least three vertices has a completion with a base.
abbrev pub SomeCompletion : Type 0
SomeCompletion = (lists : Lists) → IsSimpleMap lists → IsPlane lists → 3 ≤ vertex_count lists → (more : Lists) × ((to : ℕ) × IsCompletionFor lists more to)
