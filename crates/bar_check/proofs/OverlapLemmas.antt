-- Two edges of one column do not overlap where no edge goes through a bar.
use Rattle.std.proofs.Common.{◌≡◌, ◌⊎◌, ℕ, ◌<◌, length, ℤ, pos, inl, inr, arith}
use Rattle.std.proofs.lemmas.Int.{ints, by_lt_z}
use Rattle.map_lists.specs.Lists.{Lists}
use Rattle.map_theory.specs.Maps.{IsSimpleMap}
use Rattle.pg_plane.specs.declared.figures.BarFigure.{BarFigure}
use Rattle.vertex_rounds.specs.Rounds.{HasEdge}
use Rattle.drawings.specs.Bars.{number_at, column_of, IsColumn, IsStruck, IsValidBars}
use Rattle.drawings.proofs.BarsApart.{bars_apart, valid_bars as valid_by_bars}
use Rattle.bar_check.specs.Verdicts.{HasShape, HasHeights, AreBars, NoBadColumn, NoneThrough, NoneOverlap, KeepsTurns}

-- a column is one of an edge or not
column_decided : (fig : BarFigure) (width : ℤ) (a b : ℕ) (x : ℤ) → IsColumn fig width a b x ⊎ (¬ IsColumn fig width a b x)
column_decided fig width a b x = grind (arith, by_lt_z, pos, ints, number_at)

-- without bad columns each edge has one
pub column_within : (lists : Lists) (fig : BarFigure) (width : ℤ) → NoBadColumn lists fig width → (a b : ℕ) → HasEdge lists a b → IsColumn fig width a b (column_of lists fig a b)
column_within lists fig width columns a b e =
    elim (column_decided fig width a b (column_of lists fig a b)) [
      | inl c ↦ c
      | inr n ↦ absurd (columns a b (record { edge = e; bad = n }))
    ]

-- where no edge goes through a bar, none is in the way of an edge
clear_of_bars : (lists : Lists) (fig : BarFigure) → NoneThrough lists fig → (a b v : ℕ) → HasEdge lists a b → v < length lists → ¬ IsStruck fig a b (column_of lists fig a b) v
clear_of_bars lists fig through a b v e lv s = through a b v (record { edge = e; vertex = lv; struck = s })

-- no two edges overlap
pub none_overlap : (lists : Lists) (fig : BarFigure) → HasHeights lists fig → IsSimpleMap lists → (width : ℤ) → NoBadColumn lists fig width → NoneThrough lists fig → NoneOverlap lists fig
none_overlap lists fig heights simple width columns through a b c d o =
    bars_apart lists fig heights simple width (column_within lists fig width columns) (clear_of_bars lists fig through) a b c d o.first o.second o.order o.same o.meet

-- where no fault of the kinds before is found, and no list is turned, the bars are valid
pub valid_bars : (lists : Lists) (fig : BarFigure) (width : ℤ) → IsSimpleMap lists → HasShape lists fig → HasHeights lists fig → AreBars lists fig width → NoBadColumn lists fig width → NoneThrough lists fig → KeepsTurns lists fig → IsValidBars lists fig width
valid_bars lists fig width simple shape heights bars columns through turns =
    valid_by_bars lists fig width simple shape heights bars (column_within lists fig width columns) (clear_of_bars lists fig through) turns
