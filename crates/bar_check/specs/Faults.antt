-- What may be wrong with a visibility drawing, and where.
use Rattle.std.specs.Prelude.{ℕ, ◌<◌, ◌≤◌, ◌≡◌, length, ℤ}
use Rattle.map_lists.specs.Lists.{Lists}
use Rattle.map_theory.specs.Maps.{list_of}
use Rattle.pg_plane.specs.declared.figures.BarFigure.{BarFigure}
use Rattle.vertex_rounds.specs.Rounds.{HasEdge, ComesBefore}
use Rattle.drawings.specs.Bars.{number_at, column_of, IsNewHeight, IsBar, IsColumn, IsStruck, MeetInside, GoesOnceRound}

-- the height of v is not from 0 to n - 1, or a lesser vertex has it
pub record HasBadHeight (lists : Lists) (fig : BarFigure) (v : ℕ) : Type 0 where
  pub vertex : v < length lists
  pub bad : ¬ IsNewHeight lists fig v

-- the bar of v is turned round, or leaves the width
pub record HasBadBar (lists : Lists) (fig : BarFigure) (width : ℤ) (v : ℕ) : Type 0 where
  pub vertex : v < length lists
  pub bad : ¬ IsBar fig width v

-- the column of the edge from a to b leaves the width or the bar of an end
pub record HasBadColumn (lists : Lists) (fig : BarFigure) (width : ℤ) (a b : ℕ) : Type 0 where
  pub edge : HasEdge lists a b
  pub bad : ¬ IsColumn fig width a b (column_of lists fig a b)

-- the edge from a to b goes through the bar of v
pub record GoesThrough (lists : Lists) (fig : BarFigure) (a b v : ℕ) : Type 0 where
  pub edge : HasEdge lists a b
  pub vertex : v < length lists
  pub struck : IsStruck fig a b (column_of lists fig a b) v

-- the edge from a to b and the later one from c to d overlap
pub record DoOverlap (lists : Lists) (fig : BarFigure) (a b c d : ℕ) : Type 0 where
  pub first : HasEdge lists a b
  pub second : HasEdge lists c d
  pub order : ComesBefore a b c d
  pub same : column_of lists fig a b ≡ column_of lists fig c d
  pub meet : MeetInside (number_at fig.y a) (number_at fig.y b) (number_at fig.y c) (number_at fig.y d)

-- v has at least two neighbours, and its list is not in the order of its edges
pub record IsTurned (lists : Lists) (fig : BarFigure) (v : ℕ) : Type 0 where
  pub vertex : v < length lists
  pub two : 2 ≤ length (list_of lists v)
  pub turned : ¬ GoesOnceRound lists fig v
