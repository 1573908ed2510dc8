-- Which lists have a figure by Schnyder's coordinates.
use Rattle.grid_figures.specs.Forms.{SomeFigure}
use Rattle.grid_figures.specs.SchnyderFiguresFigures.{schnyder_form}

-- Each simple map of genus zero with at least three vertices has one.
abbrev pub SomeSchnyderFigure : Type 0
SomeSchnyderFigure = SomeFigure schnyder_form
