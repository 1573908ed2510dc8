-- Parts of a piece, and the line that they join or close.
use Rattle.std.proofs.Common.{◌≡◌, ◌≢◌, ℕ, ◌+◌, ◌<◌, ◌≤◌, List, [], ◌∷◌, ◌++◌, length, drop, take, get_or, refl, sym, ap, ◌∙◌, subst, arith, append_assoc, length-append}
use Rattle.std.proofs.lemmas.List.{take-append-drop, take_more, take_all, get_or-take, length-take-le}
use Rattle.std.proofs.lemmas.List.Elements.{All-append, All-from_get_or}
use Rattle.std.specs.Prelude.{Option, Some, None, Bool, true, false, if◌then◌else◌}
use Rattle.record_runs.specs.Texts.{input_limit}
use Rattle.figure_text.specs.declared.figure.Figure.{Figure}
use Rattle.line_inputs.specs.declared.figure_lines.first_line.Head.TheVariants.{Bars}
use Rattle.figure_text.specs.Reading.{IsPlain}
use Rattle.line_inputs.specs.FigureLinesProgress.{IsDue, IsOpen, Progress, Makes, Closes}
use Rattle.line_inputs.specs.declared.figure_lines.begun_figure.Begun.{Begun}
use Rattle.line_inputs.specs.declared.figure_lines.begun_figure.Due.{Due}
use Rattle.line_inputs.specs.declared.figure_lines.begun_figure.Due.TheVariants.{Row, Columns}
use Rattle.line_inputs.specs.declared.figure_lines.closed_line.After.{After}
use Rattle.line_inputs.proofs.MoreLemmas.{drop-more, within-more}
use Rattle.line_inputs.proofs.ItemLemmas.{AreItems-more}
use Rattle.line_inputs.proofs.FigureLinesLineLemmas.{IsBegun-more, closes}

-- bytes without a byte 10
pub IsPlain-front : (bytes : List ℕ) (n : ℕ) → n ≤ length bytes → ((k : ℕ) → k < n → get_or bytes k 0 ≢ 10) → IsPlain (take n bytes)
IsPlain-front bytes n within none =
    let long : length (take n bytes) ≡ n = length-take-le n bytes within in
    All-from_get_or (λ b. b ≢ 10) (take n bytes) 0 (λ k h. let lt : k < n = omega arith in rw (get_or-take n bytes k 0 lt) (none k lt))

due-more : (due : Due) (first number : ℕ) (text pending more : List ℕ) → IsDue due first number text pending → IsDue due first number (text ++ more) (pending ++ more)
due-more (Row rows) first number text pending more b = IsBegun-more rows.held.head rows.held.n first number rows.held.draft text pending more b
due-more (Columns bars) first number text pending more b = IsBegun-more Bars (length bars.draft.lists) first number bars.draft text pending more b

pub open-more : (begun : Option Begun) (first number : ℕ) (text text' pending more : List ℕ) → text' ≡ text ++ more → IsOpen begun first number text pending → IsOpen begun first number text' (pending ++ more)
open-more None first number text text' pending more is (here, same) = (here, is ∙ ap (λ (x : List ℕ). x ++ more) same)
open-more (Some b) first number text text' pending more is (here, due) = (here, rw is (due-more b.due first number text pending more due))

-- bytes that join the open line
pub Progress-joined : (consumed : List ℕ) (figures : List Figure) (number : ℕ) (pending : List ℕ) (begun : Option Begun) (more : List ℕ) → Progress consumed figures number pending begun → IsPlain more → Progress (consumed ++ more) figures number (pending ++ more) begun
Progress-joined consumed figures number pending begun more p plain = record {
  items = p.items;
  at = p.at;
  first = p.first;
  are = AreItems-more consumed more 0 1 p.items p.at p.first (omega arith) p.are;
  figures_are = p.figures_are;
  within = within-more consumed more p.at p.within;
  plain = All-append (λ b. b ≢ 10) pending more p.plain plain;
  stands = open-more begun p.first number (drop p.at consumed) (drop p.at (consumed ++ more)) pending more (drop-more consumed more p.at p.within) p.stands;
}

-- a part that holds no byte 10
pub joins-all : (consumed : List ℕ) (figures : List Figure) (number : ℕ) (pending pending' : List ℕ) (begun : Option Begun) (part : List ℕ) (n : ℕ) → n ≡ length part → ((k : ℕ) → k < n → get_or part k 0 ≢ 10) → pending' ≡ pending ++ take n part → Progress consumed figures number pending begun → Progress (consumed ++ part) figures number pending' begun
joins-all consumed figures number pending pending' begun part n all none is p =
    let whole : take n part ≡ part = take_all n part (omega arith) in
    let joined = Progress-joined consumed figures number pending begun (take n part) p (IsPlain-front part n (omega arith) none) in
    subst (λ (x : List ℕ). Progress x figures number pending' begun) (ap (λ (x : List ℕ). consumed ++ x) whole) (rw is joined)

-- one that closes the line with its byte n
pub closes-line : (consumed : List ℕ) (figures : List Figure) (number : ℕ) (pending line : List ℕ) (begun : Option Begun) (after : After) (part : List ℕ) (n : ℕ) → n < length part → ((k : ℕ) → k < n → get_or part k 0 ≢ 10) → get_or part n 0 ≡ 10 → length consumed + length part ≤ input_limit → line ≡ pending ++ take n part → Progress consumed figures number pending begun → ((text : List ℕ) (first : ℕ) → IsPlain line → IsOpen begun first number text line → Makes first number (text ++ 10 ∷ []) after) → Closes (consumed ++ take (n + 1) part) figures number after
closes-line consumed figures number pending line begun after part n within none ten few is p makes =
    let front : List ℕ = consumed ++ take n part in
    let joined = Progress-joined consumed figures number pending begun (take n part) p (IsPlain-front part n (omega arith) none) in
    let here = subst (λ (x : List ℕ). Progress front figures number x begun) (sym is) joined in
    let short : length front < input_limit = let l = length-append consumed (take n part) in let t = length-take-le n part (omega arith) in omega arith in
    let e : front ++ 10 ∷ [] ≡ consumed ++ take (n + 1) part = append_assoc consumed (take n part) (10 ∷ [])
    ∙ ap (λ (b : ℕ). consumed ++ (take n part ++ b ∷ [])) (sym ten) ∙ ap (λ (x : List ℕ). consumed ++ x) (sym (take_more part n 0 within)) in
    subst (λ (x : List ℕ). Closes x figures number after) e (closes front figures number line begun here short after (makes (drop here.at front) here.first here.plain here.stands))

-- a line whose end is the whole of it, or is put behind its front
pub joined : (alone : Bool) (old end new line : List ℕ) → (alone ≡ true → old ≡ []) → new ≡ (if alone then old else old ++ end) → line ≡ (if alone then end else new) → line ≡ old ++ end
joined true old end new line none made is = is ∙ sym (ap (λ (x : List ℕ). x ++ end) (none refl))
joined false old end new line none made is = is ∙ made

-- the first bytes of a part, the rest and what follows
pub part-splits : (consumed part tail : List ℕ) (k : ℕ) → (consumed ++ take k part) ++ (drop k part ++ tail) ≡ (consumed ++ part) ++ tail
part-splits consumed part tail k =
    sym (append_assoc (consumed ++ take k part) (drop k part) tail)
    ∙ ap (λ (x : List ℕ). x ++ tail) (append_assoc consumed (take k part) (drop k part) ∙ ap (λ (x : List ℕ). consumed ++ x) (take-append-drop k part))
