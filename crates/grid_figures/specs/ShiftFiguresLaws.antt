-- Which lists have a figure by the shift method.
use Rattle.grid_figures.specs.Forms.{SomeFigure}
use Rattle.grid_figures.specs.ShiftFiguresFigures.{shift_form}

-- Each simple map of genus zero with at least three vertices has one.
abbrev pub SomeShiftFigure : Type 0
SomeShiftFigure = SomeFigure shift_form
