-- An input is read in one way.
use Rattle.std.proofs.Common.{◌≡◌, ℕ, zero, suc, ◌+◌, ◌<◌, ◌≤◌, List, [], ◌∷◌, ◌++◌, length, refl, sym, ap, ap₂, ◌∙◌, subst, arith, inl, inr, length-append}
use Rattle.std.specs.Prelude.{◌⊎◌, Option, Some, None}
use Rattle.std.proofs.lemmas.Bool.{cases_lt}
use Rattle.record_runs.specs.Texts.{input_limit}
use Rattle.graphs.specs.Graphs.{EdgeGraph}
use Rattle.graph6_text.specs.Lines.{IsLine}
use Rattle.graph6_text.specs.Faults.{line_fault}
use Rattle.graph6_text.specs.declared.graph6_lines.G6Fault.{G6Fault}
use Rattle.graph6_text.specs.declared.graph6_lines.G6Fault.TheVariants.{BadByte, LongCount, TooMany, ShortLine, ExtraByte, Padding, NoMemory}
use Rattle.graph6_text.proofs.LineLemmas.{one_graph, lines_are_graphs, graph-said}
use Rattle.figure_text.specs.Reading.{IsPlain, IsLine as IsClosed, closed}
use Rattle.figure_text.proofs.UniqueRows.{front-unique, closed-cons, plain-front}
use Rattle.figure_text.proofs.UniqueFigures.{line-or-plain}
use Rattle.line_inputs.specs.GraphLinesReading.{first_bytes, lines_in, AreLines, HasLines, HasFault, IsTooMany, EndsAs}
use Rattle.line_inputs.specs.GraphLinesLaws.{OneReading, EachInputIsRead}
use Rattle.line_inputs.specs.declared.graph_lines.ending.Ending.{Ending}
use Rattle.line_inputs.specs.declared.graph_lines.ending.Ending.TheVariants.{Well, BadLine, Limit, TooLong}

-- a text has one fault at its front
fault-unique : (text : List ℕ) (f g : G6Fault) → HasFault text f → HasFault text g → f ≡ g
fault-unique text f g h k =
    let same = front-unique h.line k.line h.rest k.rest h.plain k.plain (sym h.parts ∙ k.parts) in
    let is : Some f ≡ Some g = sym h.is ∙ ap line_fault same.0 ∙ k.is in cc

fault-closed : (text : List ℕ) (f : G6Fault) → HasFault text f → IsPlain text → ⊥
fault-closed text f h plain = plain-front h.line h.rest (subst IsPlain h.parts plain)

fault-some : (f : G6Fault) → HasFault [] f → ⊥
fault-some f h = let l : length (h.line ++ 10 ∷ h.rest) ≡ 0 = ap length (sym h.parts) in let a = length-append h.line (10 ∷ h.rest) in omega arith

-- two endings of one rest are one
ending-unique : (total : ℕ) (rest : List ℕ) (k : ℕ) (e e' : Ending) → EndsAs total rest k e → EndsAs total rest k e' → e ≡ e'
ending-unique total rest k Well Well ends ends' = refl
ending-unique total rest k Well (BadLine j) (few, none) (same, inl (f, h, not)) = absurd (fault-some f (rw none at h))
ending-unique total rest k Well (BadLine j) (few, none) (same, inr (few', plain, some)) = absurd (omega (arith, ap length none))
ending-unique total rest k Well (Limit j) (few, none) (same, f, h, many) = absurd (fault-some f (rw none at h))
ending-unique total rest k Well TooLong (few, none) (long, plain) = absurd (omega arith)
ending-unique total rest k (BadLine j) Well (same, inl (f, h, not)) (few, none) = absurd (fault-some f (rw none at h))
ending-unique total rest k (BadLine j) Well (same, inr (few', plain, some)) (few, none) = absurd (omega (arith, ap length none))
ending-unique total rest k (BadLine j) (BadLine i) (same, why) (same', why') = ap (λ (n : ℕ). BadLine n) (same ∙ sym same')
ending-unique total rest k (BadLine j) (Limit i) (same, inl (f, h, not)) (same', g, h', many) = absurd (not (subst IsTooMany (fault-unique rest g f h' h) many))
ending-unique total rest k (BadLine j) (Limit i) (same, inr (few, plain, some)) (same', g, h', many) = absurd (fault-closed rest g h' plain)
ending-unique total rest k (BadLine j) TooLong (same, inl (f, h, not)) (long, plain) = absurd (fault-closed rest f h plain)
ending-unique total rest k (BadLine j) TooLong (same, inr (few, plain', some)) (long, plain) = absurd (omega arith)
ending-unique total rest k (Limit j) Well (same, f, h, many) (few, none) = absurd (fault-some f (rw none at h))
ending-unique total rest k (Limit j) (BadLine i) (same, g, h', many) (same', inl (f, h, not)) = absurd (not (subst IsTooMany (fault-unique rest g f h' h) many))
ending-unique total rest k (Limit j) (BadLine i) (same, g, h', many) (same', inr (few, plain, some)) = absurd (fault-closed rest g h' plain)
ending-unique total rest k (Limit j) (Limit i) (same, f, h, many) (same', g, h', many') = ap (λ (n : ℕ). Limit n) (same ∙ sym same')
ending-unique total rest k (Limit j) TooLong (same, f, h, many) (long, plain) = absurd (fault-closed rest f h plain)
ending-unique total rest k TooLong Well (long, plain) (few, none) = absurd (omega arith)
ending-unique total rest k TooLong (BadLine j) (long, plain) (same, inl (f, h, not)) = absurd (fault-closed rest f h plain)
ending-unique total rest k TooLong (BadLine j) (long, plain) (same, inr (few, plain', some)) = absurd (omega arith)
ending-unique total rest k TooLong (Limit j) (long, plain) (same, f, h, many) = absurd (fault-closed rest f h plain)
ending-unique total rest k TooLong TooLong ends ends' = refl

-- where an input ends no line of a graph is closed
no-line : (total : ℕ) (line rest : List ℕ) (k : ℕ) (g : EdgeGraph) (e : Ending) → IsPlain line → IsLine line g → EndsAs total (line ++ 10 ∷ rest) k e → ⊥
no-line total line rest k g Well plain is (few, none) = let l : length (line ++ 10 ∷ rest) ≡ 0 = ap length none in let a = length-append line (10 ∷ rest) in omega arith
no-line total line rest k g (BadLine j) plain is (same, inl (f, h, not)) = no-fault line rest g f plain is h
  where
    no-fault : (line rest : List ℕ) (g : EdgeGraph) (f : G6Fault) → IsPlain line → IsLine line g → HasFault (line ++ 10 ∷ rest) f → ⊥
    no-fault line rest g f plain is h =
        let same = front-unique line h.line rest h.rest plain h.plain h.parts in
        let two : None ≡ Some f = sym (lines_are_graphs line g is).1 ∙ ap line_fault same.0 ∙ h.is in absurd (cc)
no-line total line rest k g (BadLine j) plain is (same, inr (few, open_line, some)) = plain-front line rest open_line
no-line total line rest k g (Limit j) plain is (same, f, h, many) =
    let same' = front-unique line h.line rest h.rest plain h.plain h.parts in
    let two : None ≡ Some f = sym (lines_are_graphs line g is).1 ∙ ap line_fault same'.0 ∙ h.is in absurd (cc)
no-line total line rest k g TooLong plain is (long, open_line) = plain-front line rest open_line

-- lines from line k on, and how they end
pub lines-unique : (total : ℕ) (lines lines' : List (List ℕ)) (gs gs' : List EdgeGraph) (rest rest' : List ℕ) (k : ℕ) (e e' : Ending) → AreLines lines gs → AreLines lines' gs' → closed lines ++ rest ≡ closed lines' ++ rest' → EndsAs total rest (length gs + k) e → EndsAs total rest' (length gs' + k) e' → (gs ≡ gs') × (e ≡ e')
lines-unique total [] [] [] [] rest rest' k e e' are are' same ends ends' = (refl, ending-unique total rest (0 + k) e e' ends (subst (λ (x : List ℕ). EndsAs total x (0 + k) e') (sym same) ends'))
lines-unique total [] [] (g ∷ gs) gs' rest rest' k e e' none are' same ends ends' = absurd none
lines-unique total [] [] [] (g ∷ gs') rest rest' k e e' are none same ends ends' = absurd none
lines-unique total [] (l ∷ lines') [] [] rest rest' k e e' are none same ends ends' = absurd none
lines-unique total [] (l ∷ lines') (g ∷ gs) gs' rest rest' k e e' none are' same ends ends' = absurd none
lines-unique total [] (l ∷ lines') [] (g ∷ gs') rest rest' k e e' are (plain, is, are') same ends ends' =
    absurd (no-line total l (closed lines' ++ rest') (0 + k) g e plain is (subst (λ (x : List ℕ). EndsAs total x (0 + k) e) (same ∙ closed-cons l lines' rest') ends))
lines-unique total (l ∷ lines) [] [] gs' rest rest' k e e' none are' same ends ends' = absurd none
lines-unique total (l ∷ lines) [] (g ∷ gs) (h ∷ gs') rest rest' k e e' are none same ends ends' = absurd none
lines-unique total (l ∷ lines) [] (g ∷ gs) [] rest rest' k e e' (plain, is, are) are' same ends ends' =
    absurd (no-line total l (closed lines ++ rest) (0 + k) g e' plain is (subst (λ (x : List ℕ). EndsAs total x (0 + k) e') (sym same ∙ closed-cons l lines rest) ends'))
lines-unique total (l ∷ lines) (m ∷ lines') [] gs' rest rest' k e e' none are' same ends ends' = absurd none
lines-unique total (l ∷ lines) (m ∷ lines') (g ∷ gs) [] rest rest' k e e' are none same ends ends' = absurd none
lines-unique total (l ∷ lines) (m ∷ lines') (g ∷ gs) (h ∷ gs') rest rest' k e e' (plain, is, are) (plain', is', are') same ends ends' =
    let fronts = front-unique l m (closed lines ++ rest) (closed lines' ++ rest') plain plain' (sym (closed-cons l lines rest) ∙ same ∙ closed-cons m lines' rest') in
    let graph : g ≡ h = one_graph l g h is (subst (λ (x : List ℕ). IsLine x h) (sym fronts.0) is') in
    let count : suc (length gs) + k ≡ length gs + suc k = omega arith in
    let count' : suc (length gs') + k ≡ length gs' + suc k = omega arith in
    let tails = lines-unique total lines lines' gs gs' rest rest' (suc k) e e' are are' fronts.1 (subst (λ (n : ℕ). EndsAs total rest n e) count ends) (subst (λ (n : ℕ). EndsAs total rest' n e') count' ends') in
    (ap₂ (λ (x : EdgeGraph) (xs : List EdgeGraph). x ∷ xs) graph tails.0, tails.1)

-- The reading of an input is unique.
pub reading-unique : OneReading
reading-unique input gs gs' e e' r r' =
    lines-unique (length input) r.has.lines r'.has.lines gs gs' r.rest r'.rest 1 e e' r.has.are r'.has.are (sym r.has.parts ∙ r'.has.parts) r.ends r'.ends

-- Of each text it can be told how it is read.
record IsRead (total : ℕ) (text : List ℕ) (k : ℕ) : Type 0 where
  graphs : List EdgeGraph
  rest : List ℕ
  ending : Ending
  has : HasLines text graphs rest
  ends : EndsAs total rest (length graphs + k) ending

is-too-many : (f : G6Fault) → IsTooMany f ⊎ (¬ IsTooMany f)
is-too-many x0 = grind (arith, BadByte, LongCount, TooMany, ShortLine, ExtraByte, Padding, NoMemory)

plain-read : (total : ℕ) (text : List ℕ) (k : ℕ) → IsPlain text → IsRead total text k
plain-read total text k plain = elim (cases_lt input_limit total) [
  | inl long ↦ record { graphs = []; rest = text; ending = TooLong; has = record { lines = []; parts = refl; are = tt }; ends = (long, plain) }
  | inr few ↦ by_some text plain (omega arith)
]
  where
    by_some : (text : List ℕ) → IsPlain text → total ≤ input_limit → IsRead total text k
    by_some [] plain few = record { graphs = []; rest = []; ending = Well; has = record { lines = []; parts = refl; are = tt }; ends = (few, refl) }
    by_some (b ∷ text) plain few = record { graphs = []; rest = b ∷ text; ending = BadLine k; has = record { lines = []; parts = refl; are = tt }; ends = (omega arith, inr (few, plain, omega arith)) }

bad-read : (total : ℕ) (text : List ℕ) (k : ℕ) (f : G6Fault) → HasFault text f → IsRead total text k
bad-read total text k f h = elim (is-too-many f) [
  | inl many ↦ record { graphs = []; rest = text; ending = Limit k; has = record { lines = []; parts = refl; are = tt }; ends = (omega arith, f, h, many) }
  | inr not ↦ record { graphs = []; rest = text; ending = BadLine k; has = record { lines = []; parts = refl; are = tt }; ends = (omega arith, inl (f, h, not)) }
]

text-read : (total fuel : ℕ) (text : List ℕ) (k : ℕ) → length text < fuel → IsRead total text k
text-read total zero text k short = absurd (omega arith)
text-read total (suc fuel) text k short = elim (line-or-plain text) [
  | inl plain ↦ plain-read total text k plain
  | inr found ↦ by_fault found.0 found.1 found.2 (λ less. text-read total fuel found.1 (suc k) less) (line_fault found.0) refl
]
  where
    by_fault : (line rest : List ℕ) → IsClosed text line rest → (length rest < fuel → IsRead total rest (suc k)) → (o : Option G6Fault) → line_fault line ≡ o → IsRead total text k
    by_fault line rest is behind (Some f) e = bad-read total text k f (record { line = line; rest = rest; parts = is.parts; plain = is.plain; is = e })
    by_fault line rest is behind None e =
        let g = graph-said line e in
        let less : length rest < fuel = let l : length text ≡ length (line ++ 10 ∷ rest) = ap length is.parts in let a = length-append line (10 ∷ rest) in omega arith in
        let r = behind less in
        let count : length r.graphs + suc k ≡ suc (length r.graphs) + k = omega arith in
        record {
          graphs = g.0 ∷ r.graphs;
          rest = r.rest;
          ending = r.ending;
          has = record {
            lines = line ∷ r.has.lines;
            parts = is.parts ∙ ap (λ (x : List ℕ). line ++ 10 ∷ x) r.has.parts ∙ sym (closed-cons line r.has.lines r.rest);
            are = (is.plain, g.1, r.has.are);
          };
          ends = subst (λ (n : ℕ). EndsAs total r.rest n r.ending) count r.ends;
        }

-- Each input has a reading.
pub each-is-read : EachInputIsRead
each-is-read input =
    let text : List ℕ = lines_in (first_bytes input) in
    let r = text-read (length input) (suc (length text)) text 1 (omega arith) in
    (r.graphs, r.ending, record { rest = r.rest; has = r.has; ends = r.ends })
