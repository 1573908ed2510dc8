-- Schnyder's figures of records by the regions of a wood (1990).
use Rattle.std.specs.Prelude.{ℕ, List}
use Rattle.map_lists.specs.Lists.{Lists}
use Rattle.pg_plane.specs.declared.grid_points.Point.{Point}
use Rattle.pg_plane.specs.declared.figures.GridFigure.{GridFigure}
use Rattle.wood_runs.specs.Parents.{Colour}
use Rattle.wood_laws.specs.Woods.{IsInner, IsWood}
use Rattle.wood_laws.specs.WoodRegionsLaws.{StandsAtCoordinates}
use Rattle.grid_figures.specs.DrawingOrdersLaws.{IsCompletionFor}
use Rattle.grid_figures.specs.SchnyderFiguresFigures.{IsSchnyderFigure}

-- For some completion of the map with its base, and some wood of that, each inner vertex stands at its coordinates: by so many vertices a region has more than the path of the colour before.
pub record IsByRegions (lists : Lists) (points : List Point) : Type 0 where
  pub more : Lists
  pub to : ℕ
  pub completion : IsCompletionFor lists more to
  pub parent : Colour → ℕ → ℕ
  pub wood : IsWood more (0, to) parent
  pub placed : (v : ℕ) → IsInner more (0, to) v → StandsAtCoordinates more (0, to) parent points v

-- Each figure of the job `schnyder` is so.
abbrev pub FiguresByRegions : Type 0
FiguresByRegions = (lists : Lists) (figure : GridFigure) → IsSchnyderFigure lists figure → IsByRegions lists figure.points
