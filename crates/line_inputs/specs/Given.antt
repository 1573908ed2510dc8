-- What holds of each figure that is read.
use Rattle.std.specs.Prelude.{ℕ, ◌<◌, ◌≡◌, List, [], length}
use Rattle.map_lists.specs.Lists.{Lists}
use Rattle.pg_plane.specs.declared.grid_points.Point.{Point}
use Rattle.pg_plane.specs.declared.figures.BarFigure.{BarFigure}
use Rattle.pg_plane.specs.declared.figures.RectFigure.{RectFigure}
use Rattle.pg_plane.specs.Range.{IsInRange}
use Rattle.figure_text.specs.declared.figure.GridJob.{GridJob}
use Rattle.figure_text.specs.declared.figure.Figure.{Figure}
use Rattle.figure_text.specs.declared.figure.Figure.TheVariants.{Grid, Bars, Rects, Witness}
use Rattle.figure_text.specs.declared.vertex_lines.Draft.{Draft}
use Rattle.figure_text.specs.Text.{point_at, HasBars, HasRects}
use Rattle.line_inputs.specs.declared.figure_lines.first_line.Head.{Head}
use Rattle.line_inputs.specs.declared.figure_lines.first_line.Head.TheVariants.{Grid as GridHead, Bars as BarsHead, Rects as RectsHead}

-- a point for each list, within the range of coordinates
pub record HasPoints (lists : Lists) (points : List Point) : Type 0 where
  pub count : length points ≡ length lists
  pub in_range : (v : ℕ) → v < length points → IsInRange (point_at points v)

-- a straight-line drawing with from 1 to 4095 vertices
pub record IsGivenGrid (lists : Lists) (points : List Point) : Type 0 where
  pub some_list : 0 < length lists
  pub few_lists : length lists < 4096
  pub drawn : HasPoints lists points

-- a visibility drawing with from 1 to 4095 vertices, and a bar for each
pub record IsGivenBars (lists : Lists) (bars : BarFigure) : Type 0 where
  pub some_list : 0 < length lists
  pub few_lists : length lists < 4096
  pub drawn : HasBars lists bars

-- a rectangular dual with from 1 to 4095 vertices, and a rectangle for each
pub record IsGivenRects (lists : Lists) (rects : RectFigure) : Type 0 where
  pub some_list : 0 < length lists
  pub few_lists : length lists < 4096
  pub drawn : HasRects lists rects

abbrev pub IsGiven : Figure → Type 0
IsGiven (Grid job lists points) = IsGivenGrid lists points
IsGiven (Bars lists bars) = IsGivenBars lists bars
IsGiven (Rects lists rects) = IsGivenRects lists rects
IsGiven (Witness graph witness) = Unit {0}

-- lines of vertices have given a point, a bar or a rectangle for each list
pub record AreDrawn (head : Head) (draft : Draft) : Type 0 where
  pub points : (job : GridJob) → head ≡ GridHead job → HasPoints draft.lists draft.points
  pub bars : head ≡ BarsHead → HasBars draft.lists (record { y = draft.y; x1 = draft.x1; x2 = draft.x2; column = [] })
  pub rects : head ≡ RectsHead → HasRects draft.lists (record { x1 = draft.x1; x2 = draft.x2; y1 = draft.y; y2 = draft.y2 })
