-- Bars and rectangles of many maps, one behind another.
use Rattle.std.specs.Prelude.{ℕ, suc, ◌-◌, ◌+◌, ◌/◌, ◌≡◌, List, length, slice_range}
use Rattle.pg_plane.specs.declared.figures.BarFigure.{BarFigure}
use Rattle.pg_plane.specs.declared.figures.RectFigure.{RectFigure}
use Rattle.pigale_c.specs.BarArrays.{AreDrawnBars, AreBarsFor, bars_in}
use Rattle.pigale_c.specs.RectArrays.{AreDrawnRects, AreRectsFor, rects_in}
use Rattle.pigale_c.specs.ManyMaps.{AreGivenMaps, AreAnswered, AreAnsweredTo, HaveAnswers, part_of, entry_of_map, ends_of_map, entries_of_map}
use Rattle.pigale_c.specs.declared.outcome.Numbers.{Numbers}
use Rattle.pigale_c.specs.declared.outcome.Outcome.{Outcome}

-- where the columns of map i begin and end: there are half as many as neighbours
abbrev pub column_of_map : List ℕ → List ℕ → ℕ → ℕ
column_of_map map_ends ends i = entry_of_map map_ends ends i / 2

abbrev pub column_end_of_map : List ℕ → List ℕ → ℕ → ℕ
column_end_of_map map_ends ends i = column_of_map map_ends ends i + (entry_of_map map_ends ends (suc i) - entry_of_map map_ends ends i) / 2

-- what map i has of the arrays of bars
abbrev pub bars_of_map : List ℕ → List ℕ → BarFigure → ℕ → BarFigure
bars_of_map map_ends ends fig i =
    bars_in (part_of map_ends fig.y i) (part_of map_ends fig.x1 i) (part_of map_ends fig.x2 i) (slice_range fig.column (column_of_map map_ends ends i) (column_end_of_map map_ends ends i))

-- maps, a bar for each list, a column for each two neighbours, and an answer for each map
pub record HaveBars (map_ends ends neighbours : List ℕ) (fig : BarFigure) (row : List ℕ) (table : List Numbers) : Type 0 where
  pub given : AreGivenMaps map_ends ends neighbours
  pub bars : AreBarsFor (length ends) fig
  pub columns : length fig.column ≡ length neighbours / 2
  pub answers : HaveAnswers map_ends row table

-- what a call for map i alone promises
abbrev pub DrawsBars : List ℕ → List ℕ → List ℕ → ℕ → BarFigure → BarFigure → Outcome → Type 0
DrawsBars map_ends ends neighbours i = AreDrawnBars (ends_of_map map_ends ends i) (entries_of_map map_ends ends neighbours i)

-- the first k maps are drawn by bars as calls for them alone would draw them
abbrev pub AreBarsTo : List ℕ → List ℕ → List ℕ → BarFigure → BarFigure → List ℕ → List ℕ → List Numbers → List Numbers → ℕ → Type 0
AreBarsTo map_ends ends neighbours old new = AreAnsweredTo BarFigure (DrawsBars map_ends ends neighbours) (bars_of_map map_ends ends old) (bars_of_map map_ends ends new)

-- each map is drawn by bars as a call for it alone would draw it
abbrev pub AreBarsMany : List ℕ → List ℕ → List ℕ → BarFigure → BarFigure → List ℕ → List ℕ → List Numbers → List Numbers → ℕ → Type 0
AreBarsMany map_ends ends neighbours old new row row' table table' status =
    AreAnswered BarFigure (HaveBars map_ends ends neighbours old row table) (DrawsBars map_ends ends neighbours) (bars_of_map map_ends ends old) (bars_of_map map_ends ends new) row row' table table' (new ≡ old) status

-- what map i has of the arrays of rectangles
abbrev pub rects_of_map : List ℕ → RectFigure → ℕ → RectFigure
rects_of_map map_ends fig i = rects_in (part_of map_ends fig.x1 i) (part_of map_ends fig.x2 i) (part_of map_ends fig.y1 i) (part_of map_ends fig.y2 i)

-- maps, a rectangle for each list, and an answer for each map
pub record HaveRects (map_ends ends neighbours : List ℕ) (fig : RectFigure) (row : List ℕ) (table : List Numbers) : Type 0 where
  pub given : AreGivenMaps map_ends ends neighbours
  pub rects : AreRectsFor (length ends) fig
  pub answers : HaveAnswers map_ends row table

-- what a call for map i alone promises
abbrev pub DrawsRects : List ℕ → List ℕ → List ℕ → ℕ → RectFigure → RectFigure → Outcome → Type 0
DrawsRects map_ends ends neighbours i = AreDrawnRects (ends_of_map map_ends ends i) (entries_of_map map_ends ends neighbours i)

-- the first k maps have the rectangular duals that calls for them alone would draw
abbrev pub AreRectsTo : List ℕ → List ℕ → List ℕ → RectFigure → RectFigure → List ℕ → List ℕ → List Numbers → List Numbers → ℕ → Type 0
AreRectsTo map_ends ends neighbours old new = AreAnsweredTo RectFigure (DrawsRects map_ends ends neighbours) (rects_of_map map_ends old) (rects_of_map map_ends new)

-- each map has the rectangular dual that a call for it alone would draw
abbrev pub AreRectsMany : List ℕ → List ℕ → List ℕ → RectFigure → RectFigure → List ℕ → List ℕ → List Numbers → List Numbers → ℕ → Type 0
AreRectsMany map_ends ends neighbours old new row row' table table' status =
    AreAnswered RectFigure (HaveRects map_ends ends neighbours old row table) (DrawsRects map_ends ends neighbours) (rects_of_map map_ends old) (rects_of_map map_ends new) row row' table table' (new ≡ old) status
