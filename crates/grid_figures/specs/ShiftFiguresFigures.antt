-- The figure of a record by the shift method.
use Rattle.std.specs.Prelude.{◌-◌, ◌*◌}
use Rattle.map_lists.specs.Lists.{Lists}
use Rattle.pg_plane.specs.declared.figures.GridFigure.{GridFigure}
use Rattle.fpp_shift.specs.ShiftDrawings.{AreShiftPoints}
use Rattle.grid_figures.specs.Forms.{Form, point_at, IsFigure}

-- The grid is 2n - 4 by n - 2. Vertex 0 stands at the right end of its lower side, a vertex at the left end, and one at the middle of the upper side. The points are the shift points of the order.
abbrev pub shift_form : Form
shift_form = record {
  width = λ n. 2 * n - 4;
  height = λ n. n - 2;
  tail = λ n. point_at (2 * n - 4) 0;
  head = λ n. point_at 0 0;
  third = λ n. point_at (n - 2) (n - 2);
  AreMethodPoints = AreShiftPoints;
}

-- the figure draws the map of these lists so
abbrev pub IsShiftFigure : Lists → GridFigure → Type 0
IsShiftFigure lists figure = IsFigure shift_form lists figure
