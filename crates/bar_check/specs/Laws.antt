-- The laws of the verdict: it is Yes exactly where the bars are valid, and never that two edges overlap; those of the numbers of edges, and of the order of a list.
use Rattle.std.specs.Prelude.{ℕ, ℤ, ◌<◌, ◌≤◌, ◌≡◌, ◌↔◌, length, AllPairs, Contains}
use Rattle.map_lists.specs.Lists.{Lists}
use Rattle.map_lists.specs.declared.items.Ends.{Ends}
use Rattle.map_theory.specs.Maps.{IsSimpleMap, list_of, edge_count}
use Rattle.map_theory.specs.Paths.{from_entry}
use Rattle.pg_plane.specs.declared.figures.BarFigure.{BarFigure}
use Rattle.vertex_rounds.specs.Rounds.{HasEdge, ComesBefore}
use Rattle.drawings.specs.Bars.{edge_number, IsEarlier, GoesOnceRound, IsValidBars}
use Rattle.bar_check.specs.Verdicts.{IsBarVerdict}
use Rattle.bar_check.specs.declared.verdict.BarVerdict.{BarVerdict}
use Rattle.bar_check.specs.declared.verdict.BarVerdict.TheVariants.{Overlap, Yes}

-- A verdict of a drawing is Yes exactly where its bars are valid.
abbrev pub YesIsValid : Type 0
YesIsValid =
    (lists : Lists) (fig : BarFigure) (width : ℤ) (verdict : BarVerdict) → IsBarVerdict lists fig width verdict → ((verdict ≡ Yes) ↔ (IsValidBars lists fig width))

-- No verdict on a drawing of a simple map is that two edges overlap: one of them would go through the bar of an end of the other.
abbrev pub OverlapIsNever : Type 0
OverlapIsNever =
    (lists : Lists) (fig : BarFigure) (width : ℤ) (e f : Ends) → IsSimpleMap lists → ¬ IsBarVerdict lists fig width (Overlap e f)

-- The numbers of the m edges of a simple map rise in the order of the edges and are below m: each is the edge's place in it.
pub record NumbersArePlaces (lists : Lists) : Type 0 where
  pub below : (a b : ℕ) → HasEdge lists a b → edge_number lists a b < edge_count lists
  pub rise : (a b c d : ℕ) → HasEdge lists a b → HasEdge lists c d → ComesBefore a b c d → edge_number lists a b < edge_number lists c d

-- The numbers of the edges of each simple map are their places.
abbrev pub EdgeNumbers : Type 0
EdgeNumbers = (lists : Lists) → IsSimpleMap lists → NumbersArePlaces lists

-- from some entry b on, cyclically, each entry of v's list comes before all behind it: the upward edges by rising column, and then the downward ones by falling column
abbrev pub IsInOrder : Lists → BarFigure → ℕ → Type 0
IsInOrder lists fig v =
    (b : ℕ) × Contains (list_of lists v) b × AllPairs (IsEarlier lists fig v) (from_entry b (list_of lists v))

-- A list of two entries at least has just one break exactly where it is in this order.
abbrev pub OnceIsInOrder : Type 0
OnceIsInOrder =
    (lists : Lists) (fig : BarFigure) (v : ℕ) → IsSimpleMap lists → v < length lists → 2 ≤ length (list_of lists v) → ((GoesOnceRound lists fig v) ↔ (IsInOrder lists fig v))
