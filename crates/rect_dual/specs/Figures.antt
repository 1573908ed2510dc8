-- The figure of a record by rectangles.
use Rattle.map_lists.specs.Lists.{Lists}
use Rattle.pg_plane.specs.declared.figures.RectFigure.{RectFigure}
use Rattle.drawings.specs.Duals.{HasRects, IsRectangularDual, top_vertex, right_vertex, bottom_vertex}
use Rattle.rect_orders.specs.Labellings.{IsByLabelling}

-- There is a rectangle for each vertex, and they are a rectangular dual of the map of these lists. They come of an edge labelling, whose outer face is that of the dart from vertex 0 to the first of its list.
pub record IsRectFigure (lists : Lists) (figure : RectFigure) : Type 0 where
  pub rects : HasRects lists figure
  pub dual : IsRectangularDual lists figure
  pub labelling : IsByLabelling lists 0 (top_vertex lists) (right_vertex lists) (bottom_vertex lists) figure
