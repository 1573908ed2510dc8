-- Whole lines of an open figure, read one by one from an offset of a text.
use Rattle.std.proofs.Common.{◌≡◌, ℕ, ◌+◌, ◌-◌, ◌<◌, ◌≤◌, List, [], ◌∷◌, ◌++◌, length, drop, refl, sym, ap, ◌∙◌, subst, arith, append_assoc, length-append, length-drop}
use Rattle.std.specs.Prelude.{Option, Some, None, Ok, Err}
use Rattle.figure_text.specs.declared.figure.Figure.{Figure}
use Rattle.figure_text.specs.declared.figure_ends.Item.TheVariants.{Drawn, Note}
use Rattle.figure_text.specs.Reading.{IsPlain, IsLine}
use Rattle.figure_text.specs.Laws.{IsAnswer}
use Rattle.line_inputs.specs.FigureLinesProgress.{IsDue, IsOpen, Makes, IsReadTo, fault_at, end_fault}
use Rattle.line_inputs.specs.declared.figure_lines.begun_figure.Begun.{Begun}
use Rattle.line_inputs.specs.declared.figure_lines.begun_figure.Due.{Due}
use Rattle.line_inputs.specs.declared.figure_lines.begun_figure.Due.TheVariants.{Row, Columns}
use Rattle.line_inputs.specs.declared.figure_lines.ending.Ending.{Ending}
use Rattle.line_inputs.specs.declared.figure_lines.closed_line.After.TheVariants.{Goes, Whole, Bad}
use Rattle.line_inputs.proofs.MoreLemmas.{drawn-more, note-more}
use Rattle.line_inputs.proofs.FigureLinesLineLemmas.{lists-lines, drawn-at, note-at}
use Rattle.line_inputs.proofs.FigureLinesPartLemmas.{open-more}
use Rattle.line_inputs.proofs.FigureLinesReadLemmas.{open-bad, begun-ends}

-- a figure has few lines
due-few : (due : Due) (first number : ℕ) (text : List ℕ) → IsDue due first number text [] → number ≤ first + 4096
due-few (Row rows) first number text b = let l = lists-lines b in let c = b.counted in let d = rows.due in let f = rows.few in omega arith
due-few (Columns bars) first number text b = let l = lists-lines b in let c = b.counted in let f = bars.few in omega arith

open-few : (begun : Option Begun) (first number : ℕ) (text : List ℕ) → IsOpen begun first number text [] → number ≤ first + 4096
open-few None first number text (here, none) = omega arith
open-few (Some begun) first number text (here, due) = due-few begun.due first number text due

pub ReadTo-few : (bytes : List ℕ) (at first next number : ℕ) (begun : Option Begun) → IsReadTo bytes at first next number begun → number ≤ first + 4096
ReadTo-few bytes at first next number begun read = open-few begun first number read.text read.stands

-- the line that is closed next
module _ (bytes line : List ℕ) (at first next number behind : ℕ) (begun : Option Begun) (start : at ≤ length bytes) (within : next ≤ length bytes) (end : behind ≤ length bytes) (read : IsReadTo bytes at first next number begun) (is : IsLine (drop next bytes) line (drop behind bytes)) where
  abbrev pub closed_text : List ℕ
  closed_text = (read.text ++ line) ++ 10 ∷ []

  parts : drop at bytes ≡ closed_text ++ drop behind bytes
  parts =
      read.parts
      ∙ (ap (λ (x : List ℕ). read.text ++ x) is.parts
      ∙ (sym (append_assoc read.text line (10 ∷ drop behind bytes)) ∙ sym (append_assoc (read.text ++ line) (10 ∷ []) (drop behind bytes))))

  placed : at + length closed_text ≡ behind
  placed =
      let e = ap length is.parts in
      let n = length-append line (10 ∷ drop behind bytes) in
      omega (arith, length-drop behind bytes, length-drop next bytes, length-append (read.text ++ line) (10 ∷ []), length-append read.text line)

  pub line-open : IsOpen begun first number (read.text ++ line) line
  line-open = open-more begun first number read.text (read.text ++ line) [] line refl read.stands

  pub answers-note : Makes first number closed_text (Goes None) → IsAnswer bytes at first (Ok (Note behind (number + 1)))
  answers-note note =
      let more = note-more closed_text (drop behind bytes) 0 (omega arith) first (length closed_text) (number + 1) note in
      let here = subst (λ (x : List ℕ). IsAnswer x 0 first (Ok (Note (length closed_text) (number + 1)))) (sym parts) more in
      subst (λ (k : ℕ). IsAnswer bytes at first (Ok (Note k (number + 1)))) placed (note-at bytes at first (length closed_text) (number + 1) start here)

  pub answers-drawn : (fig : Figure) → Makes first number closed_text (Whole fig) → IsAnswer bytes at first (Ok (Drawn fig behind (number + 1)))
  answers-drawn fig drawn =
      let more = drawn-more closed_text (drop behind bytes) 0 (omega arith) first fig (length closed_text) (number + 1) drawn in
      let here = subst (λ (x : List ℕ). IsAnswer x 0 first (Ok (Drawn fig (length closed_text) (number + 1)))) (sym parts) more in
      subst (λ (k : ℕ). IsAnswer bytes at first (Ok (Drawn fig k (number + 1)))) placed (drawn-at bytes at first fig (length closed_text) (number + 1) start here)

  pub answers-bad : (ending : Ending) → Makes first number closed_text (Bad ending) → IsAnswer bytes at first (Err (fault_at ending))
  answers-bad ending (here, fails) = subst (λ (x : List ℕ). IsAnswer x 0 first (Err (fault_at ending))) (sym parts) (fails (drop behind bytes))

  pub ReadTo-more : (new : Begun) → Makes first number closed_text (Goes (Some new)) → IsReadTo bytes at first behind (number + 1) (Some new)
  ReadTo-more new made = record { text = closed_text; parts = parts; placed = placed; stands = made }

-- no line is closed any more
pub answers-end : (bytes : List ℕ) (at first next number : ℕ) (begun : Option Begun) → at < length bytes → IsReadTo bytes at first next number begun → IsPlain (drop next bytes) → IsAnswer bytes at first (Err (end_fault begun first))
answers-end bytes at first next number None some read plain =
    let l = length-drop at bytes in
    open-bad bytes at first (subst IsPlain (sym (read.parts ∙ ap (λ (x : List ℕ). x ++ drop next bytes) read.stands.1)) plain) (omega arith)
answers-end bytes at first next number (Some begun) some read plain =
    begun-ends bytes at first number (drop next bytes) begun plain (open-more (Some begun) first number read.text (drop at bytes) [] (drop next bytes) read.parts read.stands)

-- a line that is closed has a byte at least
pub behind-more : (bytes line : List ℕ) (next behind : ℕ) → next ≤ length bytes → behind ≤ length bytes → IsLine (drop next bytes) line (drop behind bytes) → length bytes - behind < length bytes - next
behind-more bytes line next behind within end is =
    omega (arith, length-append line (10 ∷ drop behind bytes), ap length is.parts, length-drop behind bytes, length-drop next bytes)
