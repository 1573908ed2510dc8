-- The verdict on a visibility drawing: the first kind of fault that it has, with the least ids where it has one.
use Rattle.std.specs.Prelude.{ℕ, ◌<◌, ◌≤◌, ◌≡◌, length, ℤ}
use Rattle.map_lists.specs.Lists.{Lists}
use Rattle.map_theory.specs.Maps.{list_of, edge_count}
use Rattle.pg_plane.specs.declared.figures.BarFigure.{BarFigure}
use Rattle.vertex_rounds.specs.Least.{IsLeast, IsLeastPair, IsLeastTriple, IsLeastFour}
use Rattle.drawings.specs.Bars.{IsNewHeight, IsBar, GoesOnceRound, IsValidBars}
use Rattle.bar_check.specs.Faults.{HasBadHeight, HasBadBar, HasBadColumn, GoesThrough, DoOverlap, IsTurned}
use Rattle.bar_check.specs.declared.verdict.BarVerdict.{BarVerdict}
use Rattle.bar_check.specs.declared.verdict.BarVerdict.TheVariants.{BadShape, BadHeight, BadBar, BadColumn, Through, Overlap, Turned, Yes}

-- there is a column for each edge
abbrev pub HasShape : Lists → BarFigure → Type 0
HasShape lists fig = length fig.column ≡ edge_count lists

-- no height is wrong
abbrev pub HasHeights : Lists → BarFigure → Type 0
HasHeights lists fig = (v : ℕ) → v < length lists → IsNewHeight lists fig v

-- no bar is wrong
abbrev pub AreBars : Lists → BarFigure → ℤ → Type 0
AreBars lists fig width = (v : ℕ) → v < length lists → IsBar fig width v

-- no column is wrong
abbrev pub NoBadColumn : Lists → BarFigure → ℤ → Type 0
NoBadColumn lists fig width = (a b : ℕ) → ¬ HasBadColumn lists fig width a b

-- no edge goes through a bar
abbrev pub NoneThrough : Lists → BarFigure → Type 0
NoneThrough lists fig = (a b v : ℕ) → ¬ GoesThrough lists fig a b v

-- no two edges overlap
abbrev pub NoneOverlap : Lists → BarFigure → Type 0
NoneOverlap lists fig = (a b c d : ℕ) → ¬ DoOverlap lists fig a b c d

-- no list is turned
abbrev pub KeepsTurns : Lists → BarFigure → Type 0
KeepsTurns lists fig = (v : ℕ) → v < length lists → 2 ≤ length (list_of lists v) → GoesOnceRound lists fig v

-- The verdict is the first fault of the bars in the order below, with the least vertices, where none before it is found.
abbrev pub IsBarVerdict : Lists → BarFigure → ℤ → BarVerdict → Type 0
IsBarVerdict lists fig width BadShape = ¬ HasShape lists fig
IsBarVerdict lists fig width (BadHeight v) = HasShape lists fig × IsLeast (HasBadHeight lists fig) v.0
IsBarVerdict lists fig width (BadBar v) =
    HasShape lists fig × HasHeights lists fig × IsLeast (HasBadBar lists fig width) v.0
IsBarVerdict lists fig width (BadColumn e) =
    HasShape lists fig × HasHeights lists fig × AreBars lists fig width × IsLeastPair (HasBadColumn lists fig width) e.a.0 e.b.0
IsBarVerdict lists fig width (Through e v) =
    HasShape lists fig × HasHeights lists fig × AreBars lists fig width × NoBadColumn lists fig width × IsLeastTriple (GoesThrough lists fig) e.a.0 e.b.0 v.0
IsBarVerdict lists fig width (Overlap e f) =
    HasShape lists fig × HasHeights lists fig × AreBars lists fig width × NoBadColumn lists fig width × NoneThrough lists fig × IsLeastFour (DoOverlap lists fig) e.a.0 e.b.0 f.a.0 f.b.0
IsBarVerdict lists fig width (Turned v) =
    HasShape lists fig × HasHeights lists fig × AreBars lists fig width × NoBadColumn lists fig width × NoneThrough lists fig × NoneOverlap lists fig × IsLeast (IsTurned lists fig) v.0
IsBarVerdict lists fig width Yes = IsValidBars lists fig width
