-- Inputs of graph6 lines of any length: their parts, and that two readings are one.
use Rattle.std.proofs.Common.{◌≡◌, ◌≢◌, ℕ, ◌+◌, ◌<◌, ◌≤◌, Bool, true, false, true≢false, List, [], ◌∷◌, ◌++◌, length, drop, refl, sym, ap, ◌∙◌, subst, arith, inl, inr, append_assoc, append-nil, length-append}
use Rattle.std.proofs.lemmas.List.{take_all}
use Rattle.record_runs.specs.Texts.{input_limit}
use Rattle.graphs.specs.Graphs.{EdgeGraph}
use Rattle.graph6_text.specs.Header.{graph_header, header_length}
use Rattle.figure_text.specs.Reading.{IsPlain, closed}
use Rattle.figure_text.proofs.UniqueRows.{closed-cons}
use Rattle.line_inputs.specs.GraphLinesReading.{first_bytes, lines_in, AreLines, HasLines, EndsAs, IsReading}
use Rattle.line_inputs.specs.GraphLinesProgress.{IsSettled}
use Rattle.line_inputs.specs.GraphLinesFormat.{ending_behind}
use Rattle.line_inputs.specs.GraphLinesWhole.{IsWholeReading, ReadWithinLimit, OneWholeReading, PartsAreRead}
use Rattle.line_inputs.specs.declared.graph_lines.ending.Ending.{Ending}
use Rattle.line_inputs.specs.declared.graph_lines.ending.Ending.TheVariants.{Well, BadLine, Limit, TooLong}
use Rattle.line_inputs.proofs.HeaderLemmas.{Begins, begins-parts, parts-begin, header-before, header-none, settled-line, settled-more}
use Rattle.line_inputs.proofs.GraphLinesLineLemmas.{lines_in-more}
use Rattle.line_inputs.proofs.GraphLinesUniqueLemmas.{lines-unique}

-- lines of graphs, and more of them
AreLines-append : (lines lines' : List (List ℕ)) (graphs graphs' : List EdgeGraph) → AreLines lines graphs → AreLines lines' graphs' → AreLines (lines ++ lines') (graphs ++ graphs')
AreLines-append [] lines' [] graphs' are more = more
AreLines-append [] lines' (g ∷ graphs) graphs' are more = absurd are
AreLines-append (l ∷ lines) lines' [] graphs' are more = absurd are
AreLines-append (l ∷ lines) lines' (g ∷ graphs) graphs' (plain, is, are) more = (plain, is, AreLines-append lines lines' graphs graphs' are more)

closed-append : (lines lines' : List (List ℕ)) (rest : List ℕ) → closed lines ++ (closed lines' ++ rest) ≡ closed (lines ++ lines') ++ rest
closed-append [] lines' rest = refl
closed-append (l ∷ lines) lines' rest =
    closed-cons l lines (closed lines' ++ rest) ∙ ap (λ (x : List ℕ). l ++ 10 ∷ x) (closed-append lines lines' rest) ∙ sym (closed-cons l (lines ++ lines') rest)

-- a header with its byte 10 is the same however the bytes go on
settled-closed : (bytes : List ℕ) → Begins bytes (graph_header ++ 10 ∷ []) ≡ true → IsSettled bytes
settled-closed bytes e =
    let p = begins-parts bytes (graph_header ++ 10 ∷ []) e in
    let here : header_length bytes ≡ 11 = rw e refl in
    record {
      within = let l = ap length p.1 in let a = length-append (graph_header ++ 10 ∷ []) p.0 in omega arith;
      same = λ more.
          let longer = parts-begin (bytes ++ more) (graph_header ++ 10 ∷ []) (p.0 ++ more) (ap (λ (x : List ℕ). x ++ more) p.1 ∙ append_assoc (graph_header ++ 10 ∷ []) p.0 more) in
          let there : header_length (bytes ++ more) ≡ 11 = rw longer refl in
          there ∙ sym here;
    }

-- so is one with another byte behind it
settled-before : (bytes : List ℕ) (c : ℕ) (rest : List ℕ) → bytes ≡ graph_header ++ c ∷ rest → c ≢ 10 → IsSettled bytes
settled-before bytes c rest parts not =
    let here : header_length bytes ≡ 10 = ap header_length parts ∙ header-before c rest not in
    record {
      within = let l = ap length parts in let a = length-append graph_header (c ∷ rest) in omega arith;
      same = λ more. ap header_length (ap (λ (x : List ℕ). x ++ more) parts ∙ append_assoc graph_header (c ∷ rest) more) ∙ header-before c (rest ++ more) not ∙ sym here;
    }

-- and none where a line is closed
settled-none : (bytes line rest : List ℕ) → Begins bytes graph_header ≡ false → IsPlain line → bytes ≡ line ++ 10 ∷ rest → IsSettled bytes
settled-none bytes line rest e plain parts =
    let other : line ≢ graph_header = λ same. true≢false (sym (parts-begin bytes graph_header (10 ∷ rest) (parts ∙ ap (λ (x : List ℕ). x ++ 10 ∷ rest) same)) ∙ e) in
    let joined : (line ++ 10 ∷ []) ++ rest ≡ bytes = append_assoc line (10 ∷ []) rest ∙ sym parts in
    subst IsSettled joined (settled-more (line ++ 10 ∷ []) rest (settled-line line plain other))

-- where the line of a graph is closed the header is settled
settled-lines : (bytes line rest : List ℕ) → IsPlain line → lines_in bytes ≡ line ++ 10 ∷ rest → IsSettled bytes
settled-lines bytes line rest plain parts = by (Begins bytes (graph_header ++ 10 ∷ [])) (Begins bytes graph_header) refl refl
  where
    behind : (r : List ℕ) → r ≡ line ++ 10 ∷ rest → Begins bytes (graph_header ++ 10 ∷ []) ≡ false → bytes ≡ graph_header ++ r → IsSettled bytes
    behind [] e begins same = absurd (let l = ap length e in let a = length-append line (10 ∷ rest) in omega arith)
    behind (c ∷ r) e begins same = settled-before bytes c r same (λ ten.
        true≢false (sym (parts-begin bytes (graph_header ++ 10 ∷ []) r (same ∙ ap (λ (b : ℕ). graph_header ++ b ∷ r) ten ∙ sym (append_assoc graph_header (10 ∷ []) r))) ∙ begins))

    by : (b c : Bool) → Begins bytes (graph_header ++ 10 ∷ []) ≡ b → Begins bytes graph_header ≡ c → IsSettled bytes
    by true c e f = settled-closed bytes e
    by false true e f =
        let p = begins-parts bytes graph_header f in
        let ten : header_length bytes ≡ 10 = rw (e, f) refl in
        let same : drop 10 bytes ≡ p.0 = ap (λ (x : List ℕ). drop 10 x) p.1 in
        behind p.0 (sym same ∙ sym (ap (λ (k : ℕ). drop k bytes) ten) ∙ parts) e p.1
    by false false e f =
        let none : header_length bytes ≡ 0 = header-none bytes f in
        settled-none bytes line rest f plain (sym (ap (λ (k : ℕ). drop k bytes) none) ∙ parts)

settled-graphs : (bytes : List ℕ) (lines : List (List ℕ)) (graphs : List EdgeGraph) → AreLines lines graphs → 0 < length graphs → lines_in bytes ≡ closed lines → IsSettled bytes
settled-graphs bytes [] [] are some parts = absurd (omega arith)
settled-graphs bytes [] (g ∷ graphs) are some parts = absurd are
settled-graphs bytes (l ∷ lines) [] are some parts = absurd are
settled-graphs bytes (l ∷ lines) (g ∷ graphs) (plain, is, are) some parts =
    settled-lines bytes l (closed lines) plain (parts ∙ sym (append-nil (closed (l ∷ lines))) ∙ closed-cons l lines [] ∙ ap (λ (x : List ℕ). l ++ 10 ∷ x) (append-nil (closed lines)))

-- an ending further on
Ends-behind : (n k k' : ℕ) (rest : List ℕ) (ending : Ending) → k' ≡ n + k → EndsAs 0 rest k ending → EndsAs 0 rest k' (ending_behind n ending)
Ends-behind n k k' rest Well e ends = ends
Ends-behind n k k' rest (BadLine j) e (same, why) = (let p : n + j ≡ k' = omega arith in p, why)
Ends-behind n k k' rest (Limit j) e (same, fault, has, many) = (let p : n + j ≡ k' = omega arith in p, fault, has, many)
Ends-behind n k k' rest TooLong e (long, plain) = absurd (omega arith)

-- two parts
pub parts-read : PartsAreRead
parts-read first second graphs graphs' ending r some none r' =
    let whole : lines_in first ≡ closed r.has.lines = r.has.parts ∙ ap (λ (x : List ℕ). closed r.has.lines ++ x) r.ends.1 ∙ append-nil (closed r.has.lines) in
    let settled = settled-graphs first r.has.lines graphs r.has.are some whole in
    let later : second ≡ closed r'.has.lines ++ r'.rest = sym (ap (λ (k : ℕ). drop k second) none) ∙ r'.has.parts in
    record {
      rest = r'.rest;
      has = record {
        lines = r.has.lines ++ r'.has.lines;
        parts = lines_in-more first second settled ∙ ap (λ (x : List ℕ). x ++ second) whole ∙ ap (λ (x : List ℕ). closed r.has.lines ++ x) later
            ∙ closed-append r.has.lines r'.has.lines r'.rest;
        are = AreLines-append r.has.lines r'.has.lines graphs graphs' r.has.are r'.has.are;
      };
      ends = Ends-behind (length graphs) (length graphs' + 1) (length (graphs ++ graphs') + 1) r'.rest ending
          (let a = length-append graphs graphs' in omega arith) r'.ends;
    }

-- within the limit
ends-whole : (total : ℕ) (rest : List ℕ) (k : ℕ) (ending : Ending) → total ≤ input_limit → EndsAs total rest k ending → EndsAs 0 rest k ending
ends-whole total rest k Well few (short, none) = (omega arith, none)
ends-whole total rest k (BadLine j) few (same, inl has) = (same, inl has)
ends-whole total rest k (BadLine j) few (same, inr (short, plain, some)) = (same, inr (omega arith, plain, some))
ends-whole total rest k (Limit j) few ends = ends
ends-whole total rest k TooLong few (long, plain) = absurd (omega arith)

ends-limited : (total : ℕ) (rest : List ℕ) (k : ℕ) (ending : Ending) → total ≤ input_limit → EndsAs 0 rest k ending → EndsAs total rest k ending
ends-limited total rest k Well few (short, none) = (few, none)
ends-limited total rest k (BadLine j) few (same, inl has) = (same, inl has)
ends-limited total rest k (BadLine j) few (same, inr (short, plain, some)) = (same, inr (few, plain, some))
ends-limited total rest k (Limit j) few ends = ends
ends-limited total rest k TooLong few (long, plain) = absurd (omega arith)

pub read-limited : ReadWithinLimit
read-limited input graphs ending few =
    let all : first_bytes input ≡ input = take_all input_limit input few in (
      λ r. record {
        rest = r.rest;
        has = subst (λ (x : List ℕ). HasLines (lines_in x) graphs r.rest) all r.has;
        ends = ends-whole (length input) r.rest (length graphs + 1) ending few r.ends;
      },
      λ r. record {
        rest = r.rest;
        has = subst (λ (x : List ℕ). HasLines (lines_in x) graphs r.rest) (sym all) r.has;
        ends = ends-limited (length input) r.rest (length graphs + 1) ending few r.ends;
      },
    )

-- The reading of an input of any length is unique.
pub whole-one : OneWholeReading
whole-one input gs gs' e e' r r' =
    lines-unique 0 r.has.lines r'.has.lines gs gs' r.rest r'.rest 1 e e' r.has.are r'.has.are (sym r.has.parts ∙ r'.has.parts) r.ends r'.ends
