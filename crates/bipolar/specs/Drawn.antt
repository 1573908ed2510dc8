-- The visibility drawing of ranks and columns.
use Rattle.std.specs.Prelude.{ℕ, ◌<◌, ◌≡◌, List, length, map, pos, ◌≤ℤ◌}
use Rattle.map_lists.specs.Lists.{Lists}
use Rattle.map_theory.specs.Maps.{HasDart}
use Rattle.pg_plane.specs.declared.figures.BarFigure.{BarFigure}
use Rattle.drawings.specs.Bars.{number_at, column_between}

-- the bar of v reaches from the least column of its edges to the greatest
pub record Reaches (lists : Lists) (fig : BarFigure) (v : ℕ) : Type 0 where
  pub from_most : (u : ℕ) → HasDart lists v u → number_at fig.x1 v ≤ℤ column_between lists fig v u
  pub from_one : (u : ℕ) × HasDart lists v u × (number_at fig.x1 v ≡ column_between lists fig v u)
  pub to_least : (u : ℕ) → HasDart lists v u → column_between lists fig v u ≤ℤ number_at fig.x2 v
  pub to_one : (u : ℕ) × HasDart lists v u × (number_at fig.x2 v ≡ column_between lists fig v u)

-- The heights are the ranks, the columns are the numbers of the edges, and each bar reaches from its least column to its greatest.
pub record IsDrawnBy (lists : Lists) (rank columns : List ℕ) (fig : BarFigure) : Type 0 where
  pub y : fig.y ≡ map pos rank
  pub column : fig.column ≡ map pos columns
  pub x1 : length fig.x1 ≡ length lists
  pub x2 : length fig.x2 ≡ length lists
  pub reaches : (v : ℕ) → v < length lists → Reaches lists fig v
