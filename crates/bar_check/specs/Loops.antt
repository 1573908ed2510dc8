-- What the loops of the check go over: edges with a bar in their way.
use Rattle.std.specs.Prelude.{ℕ, ◌<◌, ◌≡◌, length, ℤ}
use Rattle.map_lists.specs.Lists.{Lists}
use Rattle.pg_plane.specs.declared.figures.BarFigure.{BarFigure}
use Rattle.vertex_rounds.specs.Rounds.{HasEdge}
use Rattle.drawings.specs.Bars.{column_of, IsStruck, IsBreak}

-- a vertex that the edge from a to b, in column x, strikes
abbrev pub IsStruckBelow : ℕ → BarFigure → ℕ → ℕ → ℤ → ℕ → Type 0
IsStruckBelow n fig a b x v = (v < n) × IsStruck fig a b x v

-- some bar is in the way of the edge from a to b
abbrev pub IsBlocked : Lists → BarFigure → ℕ → ℕ → Type 0
IsBlocked lists fig a b = (v : ℕ) × IsStruckBelow (length lists) fig a b (column_of lists fig a b) v

-- v is a, which is below b, and an edge from a to b is blocked
abbrev pub IsBlockedFrom : Lists → BarFigure → ℕ → ℕ → ℕ → Type 0
IsBlockedFrom lists fig a v b = (v ≡ a) × (a < b) × IsBlocked lists fig a b

-- an edge with a bar in its way
pub record IsBlockedEdge (lists : Lists) (fig : BarFigure) (a b : ℕ) : Type 0 where
  pub edge : HasEdge lists a b
  pub blocked : IsBlocked lists fig a b

-- the edges of v break behind that to u
pub record Breaks (lists : Lists) (fig : BarFigure) (v u : ℕ) : Type 0 where
  pub break : IsBreak lists fig v u
