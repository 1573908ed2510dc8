-- The peaks that a quick sweep from below knows: how high the edges of each column reach that have begun.
use Rattle.std.specs.Prelude.{ℕ, ◌/◌, ◌<◌, ◌≡◌, ◌⊎◌, List, length, ℤ, pos, ◌≤ℤ◌, ◌<ℤ◌}
use Rattle.map_lists.specs.Lists.{Lists}
use Rattle.map_theory.specs.Maps.{HasDart, list_of, place_of}
use Rattle.pg_plane.specs.declared.figures.BarFigure.{BarFigure}
use Rattle.drawings.specs.Bars.{number_at, column_between, Holds}

-- number i is y at least, and no number is less than it was
pub record IsRaised (i : ℕ) (y : ℤ) (old new : List ℤ) : Type 0 where
  pub here : y ≤ℤ number_at new i
  pub each : (k : ℕ) → number_at old k ≤ℤ number_at new k

-- the edges of column k reach y at least: so say the tables of columns, of blocks of 16 columns and of superblocks of 256
pub record IsReached (y : ℤ) (k : ℕ) (peaks blocks superblocks : List ℤ) : Type 0 where
  pub column : y ≤ℤ number_at peaks k
  pub block : y ≤ℤ number_at blocks (k / 16)
  pub superblock : y ≤ℤ number_at superblocks (k / 256)

-- one of the tables says that no edge of column k reaches above height h
abbrev pub IsPassed : ℕ → ℕ → (peaks blocks superblocks : List ℤ) → Type 0
IsPassed h k peaks blocks superblocks =
    (number_at peaks k ≤ℤ pos h) ⊎ ((number_at blocks (k / 16) ≤ℤ pos h) ⊎ (number_at superblocks (k / 256) ≤ℤ pos h))

-- an edge leads up from a, which is below height h, to b
pub record IsUp (lists : Lists) (fig : BarFigure) (h a b : ℕ) : Type 0 where
  pub dart : HasDart lists a b
  pub below : number_at fig.y a <ℤ pos h
  pub up : number_at fig.y a <ℤ number_at fig.y b

-- an edge leads from v to one of the first i entries of its list, which is not below height h
pub record IsNew (lists : Lists) (fig : BarFigure) (h v i a b : ℕ) : Type 0 where
  pub tail : a ≡ v
  pub dart : HasDart lists v b
  pub place : place_of b (list_of lists v) < i
  pub above : pos h ≤ℤ number_at fig.y b

-- one of both
abbrev pub IsBegun : Lists → BarFigure → ℕ → ℕ → ℕ → ℕ → ℕ → Type 0
IsBegun lists fig h v i a b = IsUp lists fig h a b ⊎ IsNew lists fig h v i a b

-- the tables know how high some edges reach
pub record HasReach (lists : Lists) (fig : BarFigure) (P : ℕ → ℕ → Type 0) (peaks blocks superblocks : List ℤ) : Type 0 where
  pub each : (a b k : ℕ) → P a b → column_between lists fig a b ≡ pos k → IsReached (number_at fig.y b) k peaks blocks superblocks

-- The bars below height h were met: the tables know the edges that lead up from them, and none of these bars is in the way of an edge.
pub record IsSwept (lists : Lists) (fig : BarFigure) (h : ℕ) (peaks blocks superblocks : List ℤ) : Type 0 where
  pub reach : HasReach lists fig (IsUp lists fig h) peaks blocks superblocks
  pub clear : (a b w : ℕ) → HasDart lists a b → w < length lists → number_at fig.y w <ℤ pos h → number_at fig.y a <ℤ number_at fig.y w → number_at fig.y w <ℤ number_at fig.y b → ¬ Holds fig w (column_between lists fig a b)
