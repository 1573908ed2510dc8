-- The figure of a record by a convex drawing: valid, with three of its vertices at fixed places, and by the regions of a convex wood.
use Rattle.std.specs.Prelude.{ℕ, ◌-◌, ◌≡◌, List, length, slice_index, pos}
use Rattle.map_lists.specs.Lists.{Lists}
use Rattle.map_theory.specs.Maps.{HasDart, list_of, face_count}
use Rattle.map_theory.specs.Paths.{SameFace}
use Rattle.half_edges.specs.Map.{first_dart}
use Rattle.pg_plane.specs.declared.grid_points.Point.{Point}
use Rattle.pg_plane.specs.declared.figures.GridFigure.{GridFigure}
use Rattle.plane_drawings.specs.Drawing.{place}
use Rattle.drawings.specs.Valid.{IsValid}
use Rattle.convex_counts.specs.declared.face_woods.axis.Axis.{Axis}
use Rattle.convex_laws.specs.ConvexDrawings.{grid_point}
use Rattle.convex_laws.specs.RegionDrawings.{IsRegionDrawing}
use Rattle.drawings.specs.Convex.{IsConvex}

-- how far the grid reaches in both directions: as far as there are faces besides one
abbrev pub side_of : Lists → ℕ
side_of lists = face_count lists - 1

-- Vertex 0 stands at the upper left corner of the grid, the first of its list at the lower right one, and the vertex before it on the outer face at the lower left one.
pub record IsPlaced (lists : Lists) (points : List Point) : Type 0 where
  pub first : place points 0 ≡ grid_point 0 (side_of lists)
  pub second : place points (slice_index (list_of lists 0) 0) ≡ grid_point (side_of lists) 0
  pub third : (e : ℕ) → HasDart lists e 0 → SameFace lists (e, 0) (first_dart lists 0) → place points e ≡ grid_point 0 0

-- The figure draws the map of these lists plane and convex, with the rotations kept, in a grid of one less than the number of faces in both directions. Some convex wood of the map, over the dart from vertex 0 to the first of its list, gives each vertex its point: the numbers of faces in its regions.
pub record IsConvexFigure (lists : Lists) (figure : GridFigure) : Type 0 where
  pub count : length figure.points ≡ length lists
  pub width : figure.width ≡ pos (side_of lists)
  pub height : figure.height ≡ pos (side_of lists)
  pub valid : IsValid lists figure.points figure.width figure.height
  pub convex : IsConvex lists figure.points (first_dart lists 0)
  pub placed : IsPlaced lists figure.points
  pub root : Axis → ℕ
  pub out : Axis → ℕ → ℕ
  pub regions : IsRegionDrawing lists (first_dart lists 0) root out figure.points
