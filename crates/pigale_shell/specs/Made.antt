-- The job `gen`: it reads nothing, and answers the one map that it makes.
use Rattle.std.specs.Prelude.{ℕ, ◌≡◌, ◌⊎◌, true, List, [], ◌∷◌, ◌++◌, codes, ℤ, pos, ◌+ℤ◌}
use Rattle.std.specs.Fmt.{signed_decimal}
use Rattle.map_lists.specs.Lists.{Lists}
use Rattle.map_gen.specs.Stacked.{stacked}
use Rattle.pg_plane.specs.declared.grid_points.Point.{Point}
use Rattle.pg_plane.specs.declared.figures.GridFigure.{GridFigure}
use Rattle.grid_figures.specs.ShiftFiguresFigures.{IsShiftFigure}
use Rattle.record_runs.specs.Texts.{Reads, Answers}
use Rattle.planar_code.specs.Reading.{well}
use Rattle.pigale_shell.specs.Text.{word_and_number, line, count_line, last_line}

-- the sum of a whole number of each point
abbrev pub total : (Point → ℤ) → List Point → ℤ
total f [] = pos 0
total f (p ∷ points) = f p +ℤ total f points

-- the sums of x and of y
abbrev pub total_x : List Point → ℤ
total_x points = total (λ p. p.x) points

abbrev pub total_y : List Point → ℤ
total_y points = total (λ p. p.y) points

-- the line that tells two sums over the figure of record k
unfoldable pub sums_line : ℕ → ℤ → ℤ → List ℕ
sums_line k x y = line (word_and_number (codes "verdict") k ++ codes " yes sum" ++ 32 ∷ signed_decimal x ++ 32 ∷ signed_decimal y)

-- what `gen` writes for record k: its count line, and the sums over a figure that is valid for the job `shift`
abbrev pub IsMadeBlock : ℕ → Lists → List ℕ → Type 0
IsMadeBlock k lists text =
    (figure : GridFigure) × IsShiftFigure lists figure × (text ≡ count_line k lists ++ sums_line k (total_x figure.points) (total_y figure.points))

-- Whatever the input is, the one record is the map of `size` vertices that is made from `number`, and it ends well.
abbrev pub made : ℕ → ℕ → Reads Lists (Unit {0})
made size number = record {
  IsReading = λ input records ending. records ≡ stacked size number ∷ [];
  BeginsWith = λ input records. (records ≡ []) ⊎ (records ≡ stacked size number ∷ []);
  well = tt;
  IsBad = λ ending. ⊥;
}

-- its block, and the last line; no made map is refused
abbrev pub made_answers : Answers Lists (Unit {0})
made_answers = record {
  IsBlock = IsMadeBlock;
  Serves = λ lists served. served ≡ true;
  last_line = λ records refused ending. last_line records refused well;
}
