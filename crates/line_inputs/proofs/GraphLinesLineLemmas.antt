-- What bytes without a byte 10, and a byte 10 behind them, do to what has been read.
use Rattle.std.proofs.Common.{◌≡◌, ◌≢◌, ℕ, ◌+◌, ◌-◌, ◌<◌, ◌≤◌, Bool, true, false, List, [], ◌∷◌, ◌++◌, length, take, drop, refl, sym, ap, ◌∙◌, subst, arith, inl, append_assoc, length-append}
use Rattle.std.proofs.lemmas.List.{drop-append-le}
use Rattle.std.proofs.lemmas.List.Elements.{All-append, All-drop}
use Rattle.std.proofs.Math.Seq.{take-append-add}
use Rattle.std.specs.Prelude.{Some}
use Rattle.record_runs.specs.Texts.{input_limit}
use Rattle.graphs.specs.Graphs.{EdgeGraph}
use Rattle.graph6_text.specs.Header.{graph_header, header_length}
use Rattle.graph6_text.specs.Lines.{IsLine}
use Rattle.graph6_text.specs.declared.graph6_lines.G6Fault.{G6Fault}
use Rattle.figure_text.specs.Reading.{IsPlain, closed}
use Rattle.figure_text.proofs.RowLemmas.{closed-more}
use Rattle.line_inputs.specs.GraphLinesReading.{first_bytes, lines_in, AreLines, HasLines, EndsAs}
use Rattle.line_inputs.specs.GraphLinesFormat.{IsBad}
use Rattle.line_inputs.specs.GraphLinesProgress.{IsSettled, Stands, Progress, behind_header, Judges, IsJudged, Closes}
use Rattle.line_inputs.specs.declared.graph_lines.ending.Ending.{Ending}
use Rattle.line_inputs.specs.declared.graph_lines.ending.Ending.TheVariants.{Well, BadLine, Limit, TooLong}
use Rattle.line_inputs.specs.declared.graph_lines.open_line.Judged.{Judged}
use Rattle.line_inputs.specs.declared.graph_lines.open_line.Judged.TheVariants.{Header, Graph, Bad}
use Rattle.line_inputs.proofs.HeaderLemmas.{header-of-line, header-within, settled-line, settled-more}
use Rattle.line_inputs.proofs.FigureLinesLineLemmas.{IsPlain-none}

-- a line more
AreLines-push : (lines : List (List ℕ)) (graphs : List EdgeGraph) (line : List ℕ) (g : EdgeGraph) → AreLines lines graphs → IsPlain line → IsLine line g → AreLines (lines ++ line ∷ []) (graphs ++ g ∷ [])
AreLines-push [] [] line g are plain is = (plain, is, tt)
AreLines-push [] (h ∷ graphs) line g are plain is = absurd are
AreLines-push (l ∷ lines) [] line g are plain is = absurd are
AreLines-push (l ∷ lines) (h ∷ graphs) line g (p, i, are) plain is = (p, i, AreLines-push lines graphs line g are plain is)

pub HasLines-push : (text : List ℕ) (graphs : List EdgeGraph) (line rest : List ℕ) (g : EdgeGraph) → HasLines text graphs (line ++ 10 ∷ rest) → IsPlain line → IsLine line g → HasLines text (graphs ++ g ∷ []) rest
HasLines-push text graphs line rest g has plain is = record {
  lines = has.lines ++ line ∷ [];
  parts = has.parts ∙ closed-more has.lines line rest;
  are = AreLines-push has.lines graphs line g has.are plain is;
}

-- more bytes behind what is left
pub HasLines-more : (text : List ℕ) (graphs : List EdgeGraph) (rest more : List ℕ) → HasLines text graphs rest → HasLines (text ++ more) graphs (rest ++ more)
HasLines-more text graphs rest more has = record {
  lines = has.lines;
  parts = ap (λ (x : List ℕ). x ++ more) has.parts ∙ append_assoc (closed has.lines) rest more;
  are = has.are;
}

pub HasLines-none : (text : List ℕ) → HasLines text [] text
HasLines-none text = record { lines = []; parts = refl; are = tt }

pub lines_in-more : (bytes more : List ℕ) → IsSettled bytes → lines_in (bytes ++ more) ≡ lines_in bytes ++ more
lines_in-more bytes more settled = ap (λ (k : ℕ). drop k (bytes ++ more)) (settled.same more) ∙ drop-append-le (header_length bytes) bytes more settled.within

-- bytes that join the open line
stands-joined : (first : Bool) (consumed : List ℕ) (graphs : List EdgeGraph) (pending more : List ℕ) → Stands first consumed graphs pending → Stands first (consumed ++ more) graphs (pending ++ more)
stands-joined true consumed graphs pending more (same, none) = (ap (λ (x : List ℕ). x ++ more) same, none)
stands-joined false consumed graphs pending more (settled, has) =
    (settled-more consumed more settled, subst (λ (x : List ℕ). HasLines x graphs (pending ++ more)) (sym (lines_in-more consumed more settled)) (HasLines-more (lines_in consumed) graphs pending more has))

pub Progress-joined : (consumed : List ℕ) (graphs : List EdgeGraph) (number : ℕ) (first : Bool) (pending more : List ℕ) → Progress consumed graphs number first pending → IsPlain more → Progress (consumed ++ more) graphs number first (pending ++ more)
Progress-joined consumed graphs number first pending more p plain = record {
  counted = p.counted;
  plain = All-append (λ b. b ≢ 10) pending more p.plain plain;
  stands = stands-joined first consumed graphs pending more p.stands;
}

-- what is left behind the lines, where no line is closed behind them, and where one is
pub open-text : (first : Bool) (consumed : List ℕ) (graphs : List EdgeGraph) (pending : List ℕ) → Stands first consumed graphs pending → HasLines (lines_in consumed) graphs (behind_header first pending)
open-text true consumed graphs pending (same, none) = rw (same, none) (HasLines-none (lines_in pending))
open-text false consumed graphs pending (settled, has) = has

pub closed-text : (first : Bool) (consumed : List ℕ) (graphs : List EdgeGraph) (line rest : List ℕ) → IsPlain line → (first ≡ true → line ≢ graph_header) → Stands first consumed graphs line → HasLines (lines_in (consumed ++ 10 ∷ rest)) graphs (behind_header first line ++ 10 ∷ rest)
closed-text true consumed graphs line rest plain other (same, none) =
    let not = other refl in
    let front : lines_in (line ++ 10 ∷ rest) ≡ drop (header_length line) line ++ 10 ∷ rest =
    ap (λ (k : ℕ). drop k (line ++ 10 ∷ rest)) (header-of-line line rest plain not) ∙ drop-append-le (header_length line) line (10 ∷ rest) (header-within line plain) in
    rw (same, none) (subst (λ (x : List ℕ). HasLines (lines_in (line ++ 10 ∷ rest)) [] x) front (HasLines-none (lines_in (line ++ 10 ∷ rest))))
closed-text false consumed graphs line rest plain other (settled, has) =
    subst (λ (x : List ℕ). HasLines x graphs (line ++ 10 ∷ rest)) (sym (lines_in-more consumed (10 ∷ rest) settled)) (HasLines-more (lines_in consumed) graphs line (10 ∷ rest) has)

pub behind-plain : (first : Bool) (line : List ℕ) → IsPlain line → IsPlain (behind_header first line)
behind-plain true line plain = All-drop (λ b. b ≢ 10) (header_length line) line plain
behind-plain false line plain = plain

settled-closed : (first : Bool) (consumed : List ℕ) (graphs : List EdgeGraph) (line : List ℕ) → IsPlain line → (first ≡ true → line ≢ graph_header) → Stands first consumed graphs line → IsSettled (consumed ++ 10 ∷ [])
settled-closed true consumed graphs line plain other (same, none) = rw same (settled-line line plain (other refl))
settled-closed false consumed graphs line plain other (settled, has) = settled-more consumed (10 ∷ []) settled

-- the line of a graph is closed
pub closes-graph : (consumed : List ℕ) (graphs : List EdgeGraph) (number : ℕ) (first : Bool) (line : List ℕ) (g : EdgeGraph) → Progress consumed graphs number first line → (first ≡ true → line ≢ graph_header) → IsLine (behind_header first line) g → Closes (consumed ++ 10 ∷ []) graphs number (Graph g)
closes-graph consumed graphs number first line g p other is = record {
  counted = let c = p.counted in let l = length-append graphs (g ∷ []) in omega arith;
  plain = IsPlain-none;
  stands = (
    settled-closed first consumed graphs line p.plain other p.stands,
    HasLines-push (lines_in (consumed ++ 10 ∷ [])) graphs (behind_header first line) [] g (closed-text first consumed graphs line [] p.plain other p.stands) (behind-plain first line p.plain) is,
  );
}

-- a bad line is closed
pub read-front : (consumed tail : List ℕ) → length consumed ≤ input_limit → first_bytes (consumed ++ tail) ≡ consumed ++ take (input_limit - length consumed) tail
read-front consumed tail few =
    let k : ℕ = input_limit - length consumed in
    let e : input_limit ≡ length consumed + k = omega arith in
    ap (λ (n : ℕ). take n (consumed ++ tail)) e ∙ take-append-add consumed tail k

judged-ends : (total : ℕ) (line rest : List ℕ) (k : ℕ) (fault : G6Fault) (ending : Ending) → IsPlain line → Judges k line fault (Some ending) → IsBad ending × EndsAs total (line ++ 10 ∷ rest) k ending
judged-ends total line rest k fault Well plain none = absurd none
judged-ends total line rest k fault (BadLine j) plain (same, is, not) = (tt, (same, inl (fault, record { line = line; rest = rest; parts = refl; plain = plain; is = is }, not)))
judged-ends total line rest k fault (Limit j) plain (same, is, many) = (tt, (same, fault, record { line = line; rest = rest; parts = refl; plain = plain; is = is }, many))
judged-ends total line rest k fault TooLong plain none = absurd none

pub closes-bad : (consumed : List ℕ) (graphs : List EdgeGraph) (number : ℕ) (first : Bool) (line : List ℕ) (fault : G6Fault) (ending : Ending) → length consumed < input_limit → Progress consumed graphs number first line → (first ≡ true → line ≢ graph_header) → Judges number (behind_header first line) fault (Some ending) → Closes (consumed ++ 10 ∷ []) graphs number (Bad ending)
closes-bad consumed graphs number first line fault ending short p other judged = (
  (judged-ends 0 (behind_header first line) [] number fault ending (behind-plain first line p.plain) judged).0,
  λ tail.
      let few : length (consumed ++ 10 ∷ []) ≤ input_limit = let l = length-append consumed (10 ∷ []) in omega arith in
      let more : List ℕ = take (input_limit - length (consumed ++ 10 ∷ [])) tail in
      let front : first_bytes ((consumed ++ 10 ∷ []) ++ tail) ≡ consumed ++ 10 ∷ more = read-front (consumed ++ 10 ∷ []) tail few ∙ append_assoc consumed (10 ∷ []) more in
      let ends = (judged-ends (length ((consumed ++ 10 ∷ []) ++ tail)) (behind_header first line) more number fault ending (behind-plain first line p.plain) judged).1 in
      record {
        rest = behind_header first line ++ 10 ∷ more;
        has = subst (λ (x : List ℕ). HasLines (lines_in x) graphs (behind_header first line ++ 10 ∷ more)) (sym front) (closed-text first consumed graphs line more p.plain other p.stands);
        ends = subst (λ (k : ℕ). EndsAs (length ((consumed ++ 10 ∷ []) ++ tail)) (behind_header first line ++ 10 ∷ more) k ending) p.counted ends;
      },
)

-- what a line that is not the header is decides
pub closes-judged : (consumed : List ℕ) (graphs : List EdgeGraph) (number : ℕ) (first : Bool) (line : List ℕ) (judged : Judged) → length consumed < input_limit → Progress consumed graphs number first line → (first ≡ true → line ≢ graph_header) → IsJudged number (behind_header first line) judged → Closes (consumed ++ 10 ∷ []) graphs number judged
closes-judged consumed graphs number first line Header short p other none = absurd none
closes-judged consumed graphs number first line (Graph g) short p other is = closes-graph consumed graphs number first line g p other is
closes-judged consumed graphs number first line (Bad ending) short p other (fault, judged) = closes-bad consumed graphs number first line fault ending short p other judged
