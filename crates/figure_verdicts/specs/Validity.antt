-- Which figures are valid.
use Rattle.std.specs.Prelude.{ℕ, ◌*◌, ℤ, pos, ◌-ℤ◌, List, length}
use Rattle.map_lists.specs.Lists.{Lists}
use Rattle.map_theory.specs.Maps.{HasDart, IsSimpleMap, face_count}
use Rattle.half_edges.specs.Map.{first_dart}
use Rattle.pg_plane.specs.declared.grid_points.Point.{Point}
use Rattle.pg_plane.specs.declared.figures.BarFigure.{BarFigure}
use Rattle.pg_plane.specs.declared.figures.RectFigure.{RectFigure}
use Rattle.drawings.specs.Convex.{IsConvex}
use Rattle.drawings.specs.Duals.{IsRectangularDual}
use Rattle.drawings.specs.Bars.{IsValidBars}
use Rattle.kuratowski.specs.Witnesses.{IsWitness}
use Rattle.drawings.specs.Valid.{IsValid}
use Rattle.drawings.specs.OuterFaces.{HasOuterFace}
use Rattle.figure_text.specs.declared.figure.GridJob.{GridJob}
use Rattle.figure_text.specs.declared.figure.GridJob.TheVariants.{Shift, Schnyder, Convex}
use Rattle.figure_text.specs.declared.figure.Figure.{Figure}
use Rattle.figure_text.specs.declared.figure.Figure.TheVariants.{Grid, Bars, Rects, Witness}

-- one less than a number
abbrev pub less_one : ℕ → ℤ
less_one n = pos n -ℤ pos 1

-- how far the grid of a drawing reaches to the right, by its method, and how far up. For one vertex it may be empty.
abbrev pub grid_width : GridJob → Lists → ℤ
grid_width Shift lists = pos (2 * length lists) -ℤ pos 4
grid_width Schnyder lists = pos (length lists) -ℤ pos 2
grid_width Convex lists = less_one (face_count lists)

abbrev pub grid_height : GridJob → Lists → ℤ
grid_height Shift lists = pos (length lists) -ℤ pos 2
grid_height Schnyder lists = pos (length lists) -ℤ pos 2
grid_height Convex lists = less_one (face_count lists)

-- vertex 0 has a first dart, and the drawing is convex over it
pub record IsConvexFigure (lists : Lists) (points : List Point) : Type 0 where
  pub base : HasDart lists (first_dart lists 0).0 (first_dart lists 0).1
  pub convex : IsConvex lists points (first_dart lists 0)

-- where the map is connected, the face of vertex 0's first dart is the outer one; or the drawing is convex over that dart
abbrev pub HasShape : GridJob → Lists → List Point → Type 0
HasShape Shift lists points = HasOuterFace lists points (first_dart lists 0)
HasShape Schnyder lists points = HasOuterFace lists points (first_dart lists 0)
HasShape Convex lists points = IsConvexFigure lists points

-- The lists are a simple map, whose drawing is plane, keeps the rotations, stays in its grid and has its shape.
pub record IsValidGrid (job : GridJob) (lists : Lists) (points : List Point) : Type 0 where
  pub simple : IsSimpleMap lists
  pub valid : IsValid lists points (grid_width job lists) (grid_height job lists)
  pub shape : HasShape job lists points

-- bars reach to the right as far as there are faces besides one
abbrev pub bars_width : Lists → ℤ
bars_width lists = less_one (face_count lists)

-- The lists are a simple map, of which the rectangles are a rectangular dual.
pub record IsValidRects (lists : Lists) (rects : RectFigure) : Type 0 where
  pub simple : IsSimpleMap lists
  pub dual : IsRectangularDual lists rects

-- The lists are a simple map, of which these are valid bars of that width.
pub record IsValidBarFigure (lists : Lists) (bars : BarFigure) : Type 0 where
  pub simple : IsSimpleMap lists
  pub valid : IsValidBars lists bars (bars_width lists)

-- a figure is valid by its own kind
abbrev pub IsValidFigure : Figure → Type 0
IsValidFigure (Grid job lists points) = IsValidGrid job lists points
IsValidFigure (Bars lists bars) = IsValidBarFigure lists bars
IsValidFigure (Rects lists rects) = IsValidRects lists rects
IsValidFigure (Witness graph witness) = IsWitness graph witness.kind witness.branch witness.paths
