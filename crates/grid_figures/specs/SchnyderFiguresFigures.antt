-- The figure of a record by Schnyder's coordinates.
use Rattle.std.specs.Prelude.{◌-◌}
use Rattle.map_lists.specs.Lists.{Lists}
use Rattle.pg_plane.specs.declared.figures.GridFigure.{GridFigure}
use Rattle.order_drawings.specs.SchnyderDrawings.{AreWoodPoints}
use Rattle.grid_figures.specs.Forms.{Form, point_at, IsFigure}

-- The grid is n - 2 by n - 2. Vertex 0 is root two and stands at (0, n - 2), root one stands at (n - 2, 1), and root three at (1, 0). The points are Schnyder's coordinates over the order.
abbrev pub schnyder_form : Form
schnyder_form = record {
  width = λ n. n - 2;
  height = λ n. n - 2;
  tail = λ n. point_at 0 (n - 2);
  head = λ n. point_at (n - 2) 1;
  third = λ n. point_at 1 0;
  AreMethodPoints = AreWoodPoints;
}

-- the figure draws the map of these lists so
abbrev pub IsSchnyderFigure : Lists → GridFigure → Type 0
IsSchnyderFigure lists figure = IsFigure schnyder_form lists figure
