-- What the bytes consumed read as, and with which figures an input begins.
use Rattle.std.proofs.Common.{◌≡◌, ℕ, ◌+◌, ◌-◌, ◌<◌, ◌≤◌, List, [], ◌∷◌, ◌++◌, length, drop, take, refl, sym, ap, ◌∙◌, subst, arith, inl, inr, length-append, length-drop}
use Rattle.std.proofs.lemmas.List.{take_all, take_at}
use Rattle.std.proofs.Math.Seq.{take-append-add}
use Rattle.std.specs.Prelude.{Option, Some, None, Err}
use Rattle.record_runs.specs.Texts.{input_limit}
use Rattle.figure_text.specs.declared.figure.Figure.{Figure}
use Rattle.figure_text.specs.declared.line_shapes.Kind.TheVariants.{Bars}
use Rattle.figure_text.specs.declared.fault.TextFault.TheVariants as fault
use Rattle.figure_text.specs.Reading.{IsPlain}
use Rattle.figure_text.specs.Laws.{IsAnswer}
use Rattle.line_inputs.specs.FigureLinesReading.{AreItems, EndsAs, BeginsWith, IsReading}
use Rattle.line_inputs.specs.Heads.{head_kind}
use Rattle.line_inputs.specs.FigureLinesProgress.{IsDue, IsOpen}
use Rattle.line_inputs.specs.FigureLinesState.{State, IsAt, ending_by}
use Rattle.line_inputs.specs.declared.figure_lines.begun_figure.Begun.{Begun}
use Rattle.line_inputs.specs.declared.figure_lines.begun_figure.Due.{Due}
use Rattle.line_inputs.specs.declared.figure_lines.begun_figure.Due.TheVariants.{Row, Columns}
use Rattle.line_inputs.specs.declared.figure_lines.ending.Ending.{Ending}
use Rattle.line_inputs.specs.declared.figure_lines.ending.Ending.TheVariants.{TooLong}
use Rattle.line_inputs.proofs.ItemLemmas.{AreItems-more}
use Rattle.line_inputs.proofs.FigureLinesLineLemmas.{lists-lines, row-body}

-- an open line outside a figure is a bad line
pub open-bad : (bytes : List ℕ) (at line : ℕ) → IsPlain (drop at bytes) → 0 < length (drop at bytes) → IsAnswer bytes at line (Err (fault.BadLine line))
open-bad bytes at line plain some = inl (refl, inl (plain, some))

-- a figure that has begun ends in its lines
due-ends : (bytes : List ℕ) (at first line : ℕ) (pending : List ℕ) (due : Due) → IsPlain pending → IsDue due first line (drop at bytes) pending → IsAnswer bytes at first (Err (fault.EndInFigure first))
due-ends bytes at first line pending (Row rows) plain b =
    inr (head_kind rows.held.head, rows.held.n, b.body, b.begins, row-body (head_kind rows.held.head) rows.held.n b.body first (fault.EndInFigure first) (b.lines, pending, record { rows = b.rows; few = let l = lists-lines b in let d = rows.due in omega arith }, plain, refl))
due-ends bytes at first line pending (Columns bars) plain b = inr (Bars, length bars.draft.lists, b.body, b.begins, inr (b.lines, pending, b.rows, sym (lists-lines b), plain, refl))

pub begun-ends : (bytes : List ℕ) (at first line : ℕ) (pending : List ℕ) (begun : Begun) → IsPlain pending → IsOpen (Some begun) first line (drop at bytes) pending → IsAnswer bytes at first (Err (fault.EndInFigure begun.first))
begun-ends bytes at first line pending begun plain (same, due) =
    subst (λ (k : ℕ). IsAnswer bytes at first (Err (fault.EndInFigure k))) (sym same) (due-ends bytes at first line pending begun.due plain due)

-- how bytes end if no more come
ends-open : (bytes : List ℕ) (at first line : ℕ) (pending : List ℕ) (begun : Option Begun) → at ≤ length bytes → IsPlain pending → length bytes ≤ input_limit → IsOpen begun first line (drop at bytes) pending → EndsAs (length bytes) bytes at first (ending_by begun line pending)
ends-open bytes at first line [] None within plain few (number, none) = (few, (let l = length-drop at bytes in let n = ap length none in omega arith))
ends-open bytes at first line (b ∷ pending) None within plain few (number, here) =
    let some : 0 < length (drop at bytes) = let n = ap length here in omega arith in
    (subst (λ (k : ℕ). IsAnswer bytes at first (Err (fault.BadLine k))) (sym number) (open-bad bytes at first (subst IsPlain (sym here) plain) some), inl few)
ends-open bytes at first line pending (Some begun) within plain few stands = (begun-ends bytes at first line pending begun plain stands, few)

-- The bytes consumed are read as their figures and that ending.
pub IsAt-reads : (state : State) (consumed : List ℕ) (figures : List Figure) → IsAt state consumed figures → length consumed ≤ input_limit → IsReading consumed figures (ending_by state.begun state.line state.pending)
IsAt-reads state consumed figures at few =
    let p = at.progress in
    let whole : take input_limit consumed ≡ consumed = take_all input_limit consumed few in
    let end : Ending = ending_by state.begun state.line state.pending in
    record {
      items = p.items;
      at = p.at;
      line = p.first;
      are = subst (λ (x : List ℕ). AreItems x 0 1 p.items p.at p.first) (sym whole) p.are;
      figures_are = p.figures_are;
      ends = subst (λ (x : List ℕ). EndsAs (length consumed) x p.at p.first end) (sym whole) (ends-open consumed p.at p.first state.line state.pending state.begun p.within p.plain few p.stands);
    }

-- An input begins with the figures of its first bytes.
pub IsAt-begins : (state : State) (consumed : List ℕ) (figures : List Figure) (tail : List ℕ) → IsAt state consumed figures → length consumed ≤ input_limit → BeginsWith (consumed ++ tail) figures
IsAt-begins state consumed figures tail at few =
    let p = at.progress in
    let k : ℕ = input_limit - length consumed in
    let e : input_limit ≡ length consumed + k = omega arith in
    let parts : take input_limit (consumed ++ tail) ≡ consumed ++ take k tail = ap (λ (n : ℕ). take n (consumed ++ tail)) e ∙ take-append-add consumed tail k in
    record {
      items = p.items;
      at = p.at;
      line = p.first;
      are = subst (λ (x : List ℕ). AreItems x 0 1 p.items p.at p.first) (sym parts) (AreItems-more consumed (take k tail) 0 1 p.items p.at p.first (omega arith) p.are);
      figures_are = p.figures_are;
    }

-- An input begins with the figures that it has.
pub reading-begins : (input : List ℕ) (figures : List Figure) (ending : Ending) → IsReading input figures ending → BeginsWith input figures
reading-begins input figures ending reading = record { items = reading.items; at = reading.at; line = reading.line; are = reading.are; figures_are = reading.figures_are }

-- and with none
pub begins-none : (input : List ℕ) → BeginsWith input []
begins-none input = record { items = []; at = 0; line = 1; are = (refl, refl); figures_are = refl }

-- what is open where bytes are as many as are read
open-long : (bytes : List ℕ) (at first line total : ℕ) (pending : List ℕ) (begun : Option Begun) → input_limit < total → IsPlain pending → IsOpen begun first line (drop at bytes) pending → EndsAs total bytes at first TooLong
open-long bytes at first line total pending None long plain (number, here) = (long, inl (subst IsPlain (sym here) plain))
open-long bytes at first line total pending (Some begun) long plain stands = (long, inr (begun.first, begun-ends bytes at first line pending begun plain stands))

-- One byte more than is read: the input is too long.
pub IsAt-too_long : (state : State) (consumed : List ℕ) (figures : List Figure) → IsAt state consumed figures → length consumed ≡ input_limit → (byte : ℕ) (tail : List ℕ) → IsReading (consumed ++ byte ∷ tail) figures TooLong
IsAt-too_long state consumed figures at full byte tail =
    let p = at.progress in
    let front : take input_limit (consumed ++ byte ∷ tail) ≡ consumed = take_at consumed (byte ∷ tail) input_limit full in
    let long : input_limit < length (consumed ++ byte ∷ tail) = let l = length-append consumed (byte ∷ tail) in omega arith in
    record {
      items = p.items;
      at = p.at;
      line = p.first;
      are = subst (λ (x : List ℕ). AreItems x 0 1 p.items p.at p.first) (sym front) p.are;
      figures_are = p.figures_are;
      ends = subst (λ (x : List ℕ). EndsAs (length (consumed ++ byte ∷ tail)) x p.at p.first TooLong) (sym front) (open-long consumed p.at p.first state.line (length (consumed ++ byte ∷ tail)) state.pending state.begun long p.plain p.stands);
    }
