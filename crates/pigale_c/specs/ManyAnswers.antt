-- Counts of many maps, and verdicts on many drawings, one behind another.
use Rattle.std.specs.Prelude.{ℕ, ◌≡◌, List, length, slice_index_or, ℤ, pos}
use Rattle.pigale_c.specs.Counted.{IsCounted}
use Rattle.pigale_c.specs.Judged.{IsJudged}
use Rattle.pigale_c.specs.ManyMaps.{AreGivenMaps, AreAnswered, AreAnsweredTo, HaveAnswers, part_of, ends_of_map, entries_of_map}
use Rattle.pigale_c.specs.declared.counts.Counts.{Counts}
use Rattle.pigale_c.specs.declared.outcome.Numbers.{Numbers}
use Rattle.pigale_c.specs.declared.outcome.Outcome.{Outcome}

-- the counts of a map, of which there is none
abbrev pub no_counts : Counts
no_counts = record { n = 0; m = 0; f = 0; c = 0; genus = 0 }

abbrev pub counts_at : List Counts → ℕ → Counts
counts_at counts i = slice_index_or counts i no_counts

-- maps, room for the counts of each, and an answer for each map
pub record HaveCounts (map_ends ends neighbours : List ℕ) (counts : List Counts) (row : List ℕ) (table : List Numbers) : Type 0 where
  pub given : AreGivenMaps map_ends ends neighbours
  pub counts_long : length counts ≡ length map_ends
  pub answers : HaveAnswers map_ends row table

-- what a call for map i alone promises
abbrev pub CountsEach : List ℕ → List ℕ → List ℕ → ℕ → Counts → Counts → Outcome → Type 0
CountsEach map_ends ends neighbours i = IsCounted (ends_of_map map_ends ends i) (entries_of_map map_ends ends neighbours i)

-- the first k maps are counted as calls for them alone would count them
abbrev pub AreCountedTo : List ℕ → List ℕ → List ℕ → List Counts → List Counts → List ℕ → List ℕ → List Numbers → List Numbers → ℕ → Type 0
AreCountedTo map_ends ends neighbours counts counts' = AreAnsweredTo Counts (CountsEach map_ends ends neighbours) (counts_at counts) (counts_at counts')

-- each map is counted as a call for it alone would count it
abbrev pub AreCountedMany : List ℕ → List ℕ → List ℕ → List Counts → List Counts → List ℕ → List ℕ → List Numbers → List Numbers → ℕ → Type 0
AreCountedMany map_ends ends neighbours counts counts' row row' table table' status =
    AreAnswered Counts (HaveCounts map_ends ends neighbours counts row table) (CountsEach map_ends ends neighbours) (counts_at counts) (counts_at counts') row row' table table' (counts' ≡ counts) status

-- drawings of many maps: a point for each list, and the width and the height of a grid for each map
pub record Drawings : Type 0 where
  pub xs : List ℤ
  pub ys : List ℤ
  pub widths : List ℤ
  pub heights : List ℤ

abbrev pub drawings_in : List ℤ → List ℤ → List ℤ → List ℤ → Drawings
drawings_in xs ys widths heights = record { xs = xs; ys = ys; widths = widths; heights = heights }

-- maps with their drawings, and an answer for each map
pub record HaveDrawings (map_ends ends neighbours : List ℕ) (drawings : Drawings) (row : List ℕ) (table : List Numbers) : Type 0 where
  pub given : AreGivenMaps map_ends ends neighbours
  pub x : length drawings.xs ≡ length ends
  pub y : length drawings.ys ≡ length ends
  pub width : length drawings.widths ≡ length map_ends
  pub height : length drawings.heights ≡ length map_ends
  pub answers : HaveAnswers map_ends row table

-- what a call for map i alone promises; it writes nothing else
abbrev pub JudgesEach : List ℕ → List ℕ → List ℕ → Drawings → ℕ → Unit {0} → Unit {0} → Outcome → Type 0
JudgesEach map_ends ends neighbours drawings i _ _ =
    IsJudged (ends_of_map map_ends ends i) (entries_of_map map_ends ends neighbours i) (part_of map_ends drawings.xs i) (part_of map_ends drawings.ys i) (slice_index_or drawings.widths i (pos 0)) (slice_index_or drawings.heights i (pos 0))

abbrev pub nothing_at : ℕ → Unit {0}
nothing_at _ = tt

-- the first k drawings are judged as calls for them alone would judge them
abbrev pub AreJudgedTo : List ℕ → List ℕ → List ℕ → Drawings → List ℕ → List ℕ → List Numbers → List Numbers → ℕ → Type 0
AreJudgedTo map_ends ends neighbours drawings = AreAnsweredTo (Unit {0}) (JudgesEach map_ends ends neighbours drawings) nothing_at nothing_at

-- each drawing is judged as a call for it alone would judge it
abbrev pub AreJudgedMany : List ℕ → List ℕ → List ℕ → Drawings → List ℕ → List ℕ → List Numbers → List Numbers → ℕ → Type 0
AreJudgedMany map_ends ends neighbours drawings row row' table table' status =
    AreAnswered (Unit {0}) (HaveDrawings map_ends ends neighbours drawings row table) (JudgesEach map_ends ends neighbours drawings) nothing_at nothing_at row row' table table' (Unit {0}) status
