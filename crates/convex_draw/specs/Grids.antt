-- A convex drawing in a grid, with three of its vertices at fixed places.
use Rattle.std.specs.Prelude.{ℕ, ◌-◌, ◌≡◌, length, pos}
use Rattle.map_lists.specs.Lists.{Lists}
use Rattle.map_theory.specs.Maps.{HasDart, face_count}
use Rattle.map_theory.specs.Paths.{SameFace}
use Rattle.pg_plane.specs.declared.figures.GridFigure.{GridFigure}
use Rattle.plane_drawings.specs.Drawing.{place}
use Rattle.drawings.specs.Valid.{IsValid}
use Rattle.convex_counts.specs.declared.face_woods.axis.Axis.{Axis}
use Rattle.convex_laws.specs.ConvexDrawings.{grid_point}
use Rattle.convex_laws.specs.RegionDrawings.{IsRegionDrawing}
use Rattle.drawings.specs.Convex.{IsConvex}

-- The figure draws the map plane and convex, by the regions of a convex wood, with the rotations kept, in a grid of one less than the number of faces in both directions. The base goes from the upper left corner to the lower right one, and the vertex before it on its face stands at the lower left one.
pub record IsConvexGrid (lists : Lists) (s d : ℕ) (figure : GridFigure) : Type 0 where
  pub count : length figure.points ≡ length lists
  pub width : figure.width ≡ pos (face_count lists - 1)
  pub height : figure.height ≡ pos (face_count lists - 1)
  pub valid : IsValid lists figure.points figure.width figure.height
  pub convex : IsConvex lists figure.points (s, d)
  pub first : place figure.points s ≡ grid_point 0 (face_count lists - 1)
  pub second : place figure.points d ≡ grid_point (face_count lists - 1) 0
  pub third : (e : ℕ) → HasDart lists e s → SameFace lists (e, s) (s, d) → place figure.points e ≡ grid_point 0 0
  pub root : Axis → ℕ
  pub out : Axis → ℕ → ℕ
  pub regions : IsRegionDrawing lists (s, d) root out figure.points
