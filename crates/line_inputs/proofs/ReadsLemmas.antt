-- Each input has a reading: it is read byte after byte, and of each closed line it can be told what it does.
use Rattle.std.proofs.Common.{◌≡◌, ◌≢◌, ℕ, ◌+◌, ◌<◌, ◌≤◌, List, [], ◌∷◌, ◌++◌, length, drop, refl, sym, ap, ◌∙◌, subst, arith, append_assoc, append-nil, length-append, Bool, true, false, inl, inr}
use Rattle.std.proofs.lemmas.Bool.{cases_lt, cases_eq}
use Rattle.std.proofs.lemmas.List.Elements.{All-cons}
use Rattle.std.specs.Prelude.{IsFalse, Option, Some, None}
use Rattle.record_runs.specs.Texts.{input_limit}
use Rattle.figure_text.specs.declared.figure.Figure.{Figure}
use Rattle.figure_text.specs.declared.figure.Figure.TheVariants.{Grid as GridFigure, Bars as BarsFigure, Rects as RectsFigure, Witness as WitnessFigure}
use Rattle.figure_text.specs.declared.figure.GridJob.TheVariants.{Shift}
use Rattle.figure_text.specs.declared.line_shapes.Kind.{Kind}
use Rattle.figure_text.specs.declared.line_shapes.Kind.TheVariants.{Grid, Bars, Rects, Witness}
use Rattle.figure_text.specs.declared.vertex_lines.Draft.{Draft}
use Rattle.kuratowski.specs.declared.witness.Kind.{Kind as Subdivided}
use Rattle.kuratowski.specs.declared.witness.Kind.TheVariants.{K5, K33}
use Rattle.figure_text.specs.Words.{words_of, part_at}
use Rattle.figure_text.specs.Lines.{kind_of, rows_due, TailInRange, IsFirstLine, FirstInRange, IsColumnsLine, ColumnsInRange}
use Rattle.figure_text.specs.Reading.{IsPlain, IsRow, RowInRange, IsGoodRow, is_note}
use Rattle.figure_text.specs.Drafts.{with_row}
use Rattle.figure_text.specs.Figures.{IsHead, columns_of, witness_of}
use Rattle.graph6_text.proofs.LineLemmas.{graph-said}
use Rattle.line_inputs.specs.FigureLinesReading.{IsReading}
use Rattle.line_inputs.specs.Heads.{head_kind, HasGraph}
use Rattle.line_inputs.specs.declared.figure_lines.first_line.Head.{Head}
use Rattle.line_inputs.specs.declared.figure_lines.first_line.Head.TheVariants.{Grid as GridHead, Bars as BarsHead, Rects as RectsHead, Witness as WitnessHead}
use Rattle.line_inputs.specs.Given.{AreDrawn}
use Rattle.line_inputs.specs.FigureLinesProgress.{IsDue, IsOpen, Progress, Makes, Closes}
use Rattle.line_inputs.specs.Steps.{no_lines, IsGrown}
use Rattle.line_inputs.specs.declared.figure_lines.begun_figure.Begun.{Begun}
use Rattle.line_inputs.specs.declared.figure_lines.begun_figure.Due.{Due}
use Rattle.line_inputs.specs.declared.figure_lines.begun_figure.Due.TheVariants.{Row, Columns}
use Rattle.line_inputs.specs.declared.figure_lines.begun_figure.SomeRows.{SomeRows}
use Rattle.line_inputs.specs.declared.figure_lines.begun_figure.AllBars.{AllBars}
use Rattle.line_inputs.specs.declared.figure_lines.closed_line.After.{After}
use Rattle.line_inputs.specs.declared.figure_lines.closed_line.After.TheVariants.{Goes, Whole, Bad}
use Rattle.line_inputs.specs.declared.figure_lines.ending.Ending.{Ending}
use Rattle.line_inputs.specs.declared.figure_lines.ending.Ending.TheVariants.{BadLine, Limit, TooLong}
use Rattle.line_inputs.specs.FigureLinesState.{State, IsAt, ending_by}
use Rattle.line_inputs.proofs.ToldLemmas.{Told, told-row, told-row_range, told-columns, told-columns_range, told-first, told-first_range, kind-said}
use Rattle.line_inputs.proofs.FigureLinesLineLemmas.{IsHead-of, makes-note, makes-head, makes-limit, makes-bad, makes-bad_row, makes-far_row, makes-grown, makes-bad_columns, makes-far_columns, makes-columns, closes, lists-with_row, AreDrawn-more, IsPlain-none}
use Rattle.line_inputs.proofs.FigureLinesPartLemmas.{Progress-joined}
use Rattle.line_inputs.proofs.FigureLinesReadLemmas.{IsAt-reads, IsAt-too_long}

-- nothing is drawn yet
AreDrawn-none : (head : Head) → AreDrawn head no_lines
AreDrawn-none head = record {
  points = λ job same. record { count = refl; in_range = λ v below. absurd (omega arith) };
  bars = λ same. record { y = refl; x1 = refl; x2 = refl };
  rects = λ same. record { x1 = refl; x2 = refl; y1 = refl; y2 = refl };
}

-- a figure that begins with n vertices to come
abbrev fresh : (head : Head) (n first : ℕ) → 0 < n → n < 4096 → Begun
fresh head n first some few = record { first = first; due = Row (record { held = record { head = head; n = n; draft = no_lines }; few = few; due = some; drawn = AreDrawn-none head }) }

-- what a first line says
head-said : (kind : Kind) (line : List ℕ) → TailInRange (Some kind) line → (head : Head) × (head_kind head ≡ kind) × HasGraph head line
head-said (Grid job) line range = (GridHead job, refl, tt)
head-said Bars line range = (BarsHead, refl, tt)
head-said Rects line range = (RectsHead, refl, tt)
head-said (Witness kind) line none = let said = graph-said (part_at line 4) none in (WitnessHead kind said.0, refl, said.1)

-- and how many lines it announces
few-due : (kind : Kind) (line : List ℕ) → TailInRange (Some kind) line → (1 ≤ rows_due kind (words_of line)) × (rows_due kind (words_of line) ≤ 4095)
few-due x0 line x2 = grind (arith, Grid, Bars, Rects, Witness, Subdivided, rows_due, words_of, K5, K33)

-- where all lines of vertices, or of branches and paths, have come
all-drawn : (head : Head) (first : ℕ) (draft : Draft) → 0 < length draft.lists → length draft.lists < 4096 → AreDrawn head draft → (after : After) × IsGrown head (length draft.lists) first draft after
all-drawn (GridHead job) first draft some few drawn = (Whole (GridFigure job draft.lists draft.points), (omega arith, refl))
all-drawn BarsHead first draft some few drawn = (Goes (Some (record { first = first; due = Columns (record { draft = draft; some = some; few = few; drawn = drawn }) })), (refl, (omega arith, refl, refl)))
all-drawn RectsHead first draft some few drawn = (Whole (RectsFigure draft.lists (record { x1 = draft.x1; x2 = draft.x2; y1 = draft.y; y2 = draft.y2 })), (omega arith, refl))
all-drawn (WitnessHead kind graph) first draft some few drawn = (Whole (WitnessFigure graph (witness_of kind draft.lists)), (omega arith, refl))

some-grown : (head : Head) (n first : ℕ) (draft : Draft) → 0 < n → n < 4096 → length draft.lists ≤ n → AreDrawn head draft → (after : After) × IsGrown head n first draft after
some-grown head n first draft some few within drawn =
    elim (cases_lt (length draft.lists) n) [
      | inl due ↦ (Goes (Some (record { first = first; due = Row (record { held = record { head = head; n = n; draft = draft }; few = few; due = due; drawn = drawn }) })), (refl, (due, refl, refl, refl)))
      | inr all ↦ (
          let count : length draft.lists ≡ n = omega arith in
          subst (λ (k : ℕ). (after : After) × IsGrown head k first draft after) count (all-drawn head first draft (omega arith) (omega arith) drawn)
          )
    ]

module _ (number : ℕ) (line : List ℕ) (plain : IsPlain line) where
  -- what a closed line makes of a text
  abbrev Closed : ℕ → List ℕ → Type 0
  Closed first text = (after : After) × Makes first number (text ++ 10 ∷ []) after

  -- outside a figure
  first-makes : Closed number line
  first-makes = by_note (is_note line) refl
    where
      in-range : IsFalse (is_note line) → (shape : IsFirstLine line) → FirstInRange line → (kind : Kind) × (kind_of (words_of line) ≡ Some kind) → Closed number line
      in-range other shape range (kind, job) =
          let n : ℕ = rows_due kind (words_of line) in
          let tail : TailInRange (Some kind) line = subst (λ (k : Option Kind). TailInRange k line) job range.tail in
          let few = few-due kind line tail in
          let said = head-said kind line tail in
          let begun : Begun = fresh said.0 n number few.0 (omega (arith, few.1)) in
          let says = IsHead-of kind n line (record { shape = shape; job = job }) range refl in
          (Goes (Some begun), makes-head number line plain said.0 n (record { head = said.0; n = n; draft = no_lines }) refl other (subst (λ (k : Kind). IsHead k n line) (sym said.1) says) said.2)

      by_range : IsFalse (is_note line) → IsFirstLine line → Told (FirstInRange line) → Closed number line
      by_range other shape (inl range) = in-range other shape range (kind-said (kind_of (words_of line)) line shape.tail)
      by_range other shape (inr not) = (Bad (Limit number), makes-limit number line plain other shape not)

      by_shape : IsFalse (is_note line) → Told (IsFirstLine line) → Closed number line
      by_shape other (inl shape) = by_range other shape (told-first_range line)
      by_shape other (inr not) = (Bad (BadLine number), makes-bad number line plain other not)

      by_note : (b : Bool) → is_note line ≡ b → Closed number line
      by_note true is = (Goes None, makes-note number line plain is)
      by_note false is = by_shape is (told-first line)

  module _ (text : List ℕ) (first : ℕ) where
    -- where a vertex is due
    row-makes : (rows : SomeRows) → IsDue (Row rows) first number text line → Closed first text
    row-makes rows b = by_shape (told-row (head_kind rows.held.head) (length rows.held.draft.lists + 1) (words_of line))
      where
        good : IsGoodRow (head_kind rows.held.head) (length rows.held.draft.lists + 1) line → Closed first text
        good is =
            let draft : Draft = with_row (head_kind rows.held.head) rows.held.draft (words_of line) in
            let long = lists-with_row (head_kind rows.held.head) rows.held.draft (words_of line) in
            let within : length draft.lists ≤ rows.held.n = omega arith in
            let grown = some-grown rows.held.head rows.held.n first draft (omega arith) rows.few within (AreDrawn-more rows.held.head rows.held.draft (words_of line) rows.drawn) in
            (grown.0, makes-grown text first number line plain rows.held.head rows.held.n rows.held.draft b is draft refl within first refl grown.0 grown.1)

        by_range : IsRow (head_kind rows.held.head) (length rows.held.draft.lists + 1) (words_of line) → Told (RowInRange (head_kind rows.held.head) (words_of line)) → Closed first text
        by_range shaped (inl range) = good (shaped, range)
        by_range shaped (inr not) = (Bad (Limit number), makes-far_row text first number line plain rows.held.head rows.held.n rows.held.draft b rows.due shaped not)

        by_shape : Told (IsRow (head_kind rows.held.head) (length rows.held.draft.lists + 1) (words_of line)) → Closed first text
        by_shape (inl shaped) = by_range shaped (told-row_range (head_kind rows.held.head) (words_of line))
        by_shape (inr not) = (Bad (BadLine number), makes-bad_row text first number line plain rows.held.head rows.held.n rows.held.draft b rows.due not)

    -- where the columns are due
    columns-make : (bars : AllBars) → IsDue (Columns bars) first number text line → Closed first text
    columns-make bars b = by_shape (told-columns (words_of line))
      where
        by_range : IsColumnsLine (words_of line) → Told (ColumnsInRange (words_of line)) → Closed first text
        by_range shaped (inl range) =
            let fig : Figure = BarsFigure bars.draft.lists (record { y = bars.draft.y; x1 = bars.draft.x1; x2 = bars.draft.x2; column = columns_of (words_of line) }) in
            (Whole fig, makes-columns text first number line plain bars.draft b shaped range fig refl)
        by_range shaped (inr not) = (Bad (Limit number), makes-far_columns text first number line plain bars.draft b shaped not)

        by_shape : Told (IsColumnsLine (words_of line)) → Closed first text
        by_shape (inl shaped) = by_range shaped (told-columns_range (words_of line))
        by_shape (inr not) = (Bad (BadLine number), makes-bad_columns text first number line plain bars.draft b not)

    due-makes : (due : Due) → IsDue due first number text line → Closed first text
    due-makes (Row rows) b = row-makes rows b
    due-makes (Columns bars) b = columns-make bars b

    some-makes : (before : Option Begun) → IsOpen before first number text line → Closed first text
    some-makes None (here, alone) = subst (λ (x : List ℕ). Closed first x) (sym alone) (subst (λ (k : ℕ). Closed k line) here first-makes)
    some-makes (Some begun) (here, due) = due-makes begun.due due

-- an input that begins so has a reading
abbrev HasReading : List ℕ → Type 0
HasReading input = (figures : List Figure) × (ending : Ending) × IsReading input figures ending

-- how an input goes on behind what was consumed
abbrev GoesOnWith : List ℕ → Type 0
GoesOnWith rest =
    (consumed : List ℕ) (figures : List Figure) (number : ℕ) (pending : List ℕ) (begun : Option Begun)
    → length consumed ≤ input_limit → Progress consumed figures number pending begun → HasReading (consumed ++ rest)

module _ (consumed : List ℕ) (figures : List Figure) (number : ℕ) (pending : List ℕ) (begun : Option Begun) (p : Progress consumed figures number pending begun) where
  state : State
  state = record { place = length consumed; line = number; pending = pending; begun = begun; figure = GridFigure Shift [] [] }

  at : IsAt state consumed figures
  unfolding state
  at = record { placed = refl; progress = p }

  -- no more comes
  ends-now : length consumed ≤ input_limit → HasReading (consumed ++ [])
  unfolding state
  ends-now few = (figures, ending_by begun number pending, subst (λ (x : List ℕ). IsReading x figures (ending_by begun number pending)) (sym (append-nil consumed)) (IsAt-reads state consumed figures at few))

  -- a line is closed
  closed-on : (rest : List ℕ) → length consumed < input_limit → GoesOnWith rest → (after : After) → Closes (consumed ++ 10 ∷ []) figures number after → HasReading ((consumed ++ 10 ∷ []) ++ rest)
  closed-on rest short on after closes = by_after after closes
    where
      few : length (consumed ++ 10 ∷ []) ≤ input_limit
      few = let l = length-append consumed (10 ∷ []) in omega arith

      by_after : (after : After) → Closes (consumed ++ 10 ∷ []) figures number after → HasReading ((consumed ++ 10 ∷ []) ++ rest)
      by_after (Goes open_figure) q = on (consumed ++ 10 ∷ []) figures (number + 1) [] open_figure few q
      by_after (Whole fig) q = on (consumed ++ 10 ∷ []) (figures ++ fig ∷ []) (number + 1) [] None few q
      by_after (Bad ending) (bad, reads) = (figures, ending, reads rest)

  -- one byte more
  byte-on : (b : ℕ) (rest : List ℕ) → length consumed < input_limit → GoesOnWith rest → HasReading (consumed ++ b ∷ rest)
  byte-on b rest short on =
      elim (cases_eq b 10) [
        | inl ten ↦ (
            let made = some-makes number pending p.plain (drop p.at consumed) p.first begun p.stands in
            subst HasReading (append_assoc consumed (10 ∷ []) rest ∙ ap (λ (x : ℕ). consumed ++ x ∷ rest) (sym ten)) (closed-on rest short on made.0 (closes consumed figures number pending begun p short made.0 made.1))
            )
        | inr other ↦ (
            let few : length (consumed ++ b ∷ []) ≤ input_limit = let l = length-append consumed (b ∷ []) in omega arith in
            let plain = All-cons (λ (x : ℕ). x ≢ 10) b [] other IsPlain-none in
            subst HasReading (append_assoc consumed (b ∷ []) rest) (on (consumed ++ b ∷ []) figures number (pending ++ b ∷ []) begun few (Progress-joined consumed figures number pending begun (b ∷ []) p plain))
            )
      ]

  more-on : (b : ℕ) (rest : List ℕ) → length consumed ≤ input_limit → GoesOnWith rest → HasReading (consumed ++ b ∷ rest)
  more-on b rest few on =
      elim (cases_lt (length consumed) input_limit) [
        | inl short ↦ byte-on b rest short on
        | inr full ↦ (figures, TooLong, IsAt-too_long state consumed figures at (omega arith) b rest)
      ]

reads-on : (rest : List ℕ) → GoesOnWith rest
reads-on [] = λ consumed figures number pending begun few p. ends-now consumed figures number pending begun p few
reads-on (b ∷ rest) = λ consumed figures number pending begun few p. more-on consumed figures number pending begun p b rest few (reads-on rest)

pub each-reads : (input : List ℕ) → (figures : List Figure) × (ending : Ending) × IsReading input figures ending
each-reads input =
    reads-on input [] [] 1 [] None (omega arith)
    (record { items = []; at = 0; first = 1; are = (refl, refl); figures_are = refl; within = omega arith; plain = IsPlain-none; stands = (refl, refl) })
