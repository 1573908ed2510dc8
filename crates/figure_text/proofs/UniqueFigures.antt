-- There is one answer at an offset.
use Rattle.std.proofs.Common.{◌≡◌, ◌≢◌, ℕ, ◌+◌, ◌-◌, ◌<◌, ◌≤◌, List, [], ◌∷◌, ◌++◌, length, drop, refl, sym, ap, ap₂, ◌∙◌, subst, arith, length-drop, length-append, Bool, suc, inl, inr}
use Rattle.std.proofs.lemmas.Bool.{cases_eq}
use Rattle.std.proofs.lemmas.List.Elements.{All-nil, All-cons}
use Rattle.std.specs.Prelude.{Result, Ok, Err, Some, IsTrue, IsFalse, ◌⊎◌}
use Rattle.figure_text.specs.declared.figure.Figure.{Figure}
use Rattle.figure_text.specs.declared.figure.Figure.TheVariants.{Grid as GridFigure, Bars as BarsFigure, Rects as RectsFigure, Witness as WitnessFigure}
use Rattle.figure_text.specs.declared.line_shapes.Kind.{Kind}
use Rattle.figure_text.specs.declared.line_shapes.Kind.TheVariants.{Grid, Bars, Rects, Witness}
use Rattle.figure_text.specs.declared.fault.TextFault.{TextFault}
use Rattle.figure_text.specs.declared.fault.TextFault.TheVariants.{BadLine, EndInFigure, Limit, NoMemory}
use Rattle.figure_text.specs.declared.figure_ends.Item.{Item}
use Rattle.figure_text.specs.declared.figure_ends.Item.TheVariants.{Drawn, Note, End}
use Rattle.figure_text.specs.Words.{words_of, part_at}
use Rattle.graphs.specs.Graphs.{EdgeGraph}
use Rattle.graph6_text.proofs.LineLemmas.{one_graph}
use Rattle.figure_text.specs.Lines.{rows_due, IsFirstLine, FirstInRange, IsColumnsLine, ColumnsInRange}
use Rattle.figure_text.specs.Reading.{IsPlain, IsLine, Rows, RowsFail, is_note, of_lines, point_of, vertices_from}
use Rattle.figure_text.specs.Figures.{IsHead, IsBody, ColumnsFail, BodyFails, IsDrawn, Begins, bars_of, rects_of, witness_of, lines_due}
use Rattle.figure_text.specs.Laws.{IsAnswer, OneAnswer}
use Rattle.figure_text.proofs.UniqueRows.{IsLine-unique, IsPlain-no_line, Rows-unique, Why, Why-unique, Why-not_good, Stops-from_fail, Stops-longest, Stops-unique}

-- two offsets behind which the same is left are one
offset-unique : (bytes : List ℕ) (a b : ℕ) → a ≤ length bytes → b ≤ length bytes → drop a bytes ≡ drop b bytes → a ≡ b
offset-unique bytes a b in_a in_b same =
    let left : length bytes - a ≡ length bytes - b = sym (length-drop a bytes) ∙ ap length same ∙ length-drop b bytes in omega arith

-- what an answer says of the lines behind a first line
abbrev Behind : Kind → ℕ → List ℕ → List ℕ → List ℕ → ℕ → Result Item TextFault → Type 0
Behind kind n head bytes text first (Ok item) = IsDrawn kind n head bytes text first item
Behind kind n head bytes text first (Err fault) = BodyFails kind n text first fault

-- figures that are the same, with the same left behind them
drawn-unique : (bytes : List ℕ) (fig fig' : Figure) (next next' after after' count : ℕ) → next ≤ length bytes → next' ≤ length bytes → fig ≡ fig' → drop next bytes ≡ drop next' bytes → after ≡ count → after' ≡ count → Drawn fig next after ≡ Drawn fig' next' after'
drawn-unique bytes fig fig' next next' after after' count within within' same left is is' =
    let places : next ≡ next' = offset-unique bytes next next' within within' left in cc

-- all lines of vertices, and a cause why one of them does not come
full-stops : (kind : Kind) (n : ℕ) (text : List ℕ) (first : ℕ) (fault : TextFault) (lines : List (List ℕ)) (rest : List ℕ) → Rows kind text lines rest → length lines ≡ n → fault ≢ NoMemory → RowsFail kind n text first fault → ⊥
full-stops kind n text first fault lines rest rows full memory fails =
    let stops = Stops-from_fail kind n text first fault memory fails in
    absurd (omega (arith, stops.at.few, Stops-longest kind n text first fault stops lines rest rows, full))

rows-fail-unique : (kind : Kind) (n : ℕ) (text : List ℕ) (first : ℕ) (fault fault' : TextFault) → fault ≢ NoMemory → fault' ≢ NoMemory → RowsFail kind n text first fault → RowsFail kind n text first fault' → fault ≡ fault'
rows-fail-unique kind n text first fault fault' memory memory' fails fails' =
    Stops-unique kind n text first fault fault' (Stops-from_fail kind n text first fault memory fails) (Stops-from_fail kind n text first fault' memory' fails')

-- an answer other than out of memory
abbrev IsTold : Result Item TextFault → Type 0
IsTold r = r ≢ Err NoMemory

no_memory : {fault : TextFault} → IsTold (Err fault) → fault ≢ NoMemory
no_memory memory is = memory (ap (λ (f : TextFault). Err f) is)

-- the lines of all vertices of bars, and why no line of columns comes behind them
record NoColumns (n : ℕ) (text : List ℕ) (first : ℕ) (fault : TextFault) : Type 0 where
  lines : List (List ℕ)
  rest : List ℕ
  rows : Rows Bars text lines rest
  full : length lines ≡ n
  why : Why (λ line. IsColumnsLine (words_of line)) (λ line. ColumnsInRange (words_of line)) (first + 1 + n) first rest fault

NoColumns-from_fail : (n : ℕ) (text : List ℕ) (first : ℕ) (fault : TextFault) → fault ≢ NoMemory → ColumnsFail n text first fault → NoColumns n text first fault
NoColumns-from_fail n text first x3 memory x5 = grind (arith, BadLine, Limit, EndInFigure, NoMemory)

NoColumns-unique : (n : ℕ) (text : List ℕ) (first : ℕ) (fault fault' : TextFault) → NoColumns n text first fault → NoColumns n text first fault' → fault ≡ fault'
NoColumns-unique n text first fault fault' none none' =
    let same = Rows-unique Bars text none.lines none'.lines none.rest none'.rest none.rows none'.rows (none.full ∙ sym none'.full) in
    Why-unique (λ line. IsColumnsLine (words_of line)) (λ line. ColumnsInRange (words_of line)) (first + 1 + n) first none.rest fault fault' none.why
    (subst (λ (x : List ℕ). Why (λ line. IsColumnsLine (words_of line)) (λ line. ColumnsInRange (words_of line)) (first + 1 + n) first x fault') (sym same.1) none'.why)

columns-there : (n : ℕ) (head text rest : List ℕ) (first : ℕ) (fig : Figure) (fault : TextFault) → IsBody Bars n head text rest fig → NoColumns n text first fault → ⊥
columns-there n head text rest first fig fault (lines, columns, rows, full, plain, shaped, within, is) none =
    let same = Rows-unique Bars text none.lines lines none.rest (columns ++ 10 ∷ rest) none.rows rows (none.full ∙ sym full) in
    Why-not_good (λ line. IsColumnsLine (words_of line)) (λ line. ColumnsInRange (words_of line)) (first + 1 + n) first none.rest fault none.why columns rest
    (record { parts = same.1; plain = plain }) shaped within

bars-fail : (n : ℕ) (head text rest : List ℕ) (first : ℕ) (fig : Figure) (fault : TextFault) → fault ≢ NoMemory → IsBody Bars n head text rest fig → BodyFails Bars n text first fault → ⊥
bars-fail n head text rest first fig fault memory (lines, columns, rows, full, plain, shaped, within, is) (inl fails) =
    full-stops Bars n text first fault lines (columns ++ 10 ∷ rest) rows full memory fails
bars-fail n head text rest first fig fault memory body (inr fails) = columns-there n head text rest first fig fault body (NoColumns-from_fail n text first fault memory fails)

grid-fail : (n : ℕ) (head text rest : List ℕ) (first : ℕ) (job : _) (fig : Figure) (fault : TextFault) → fault ≢ NoMemory → IsBody (Grid job) n head text rest fig → BodyFails (Grid job) n text first fault → ⊥
grid-fail n head text rest first job fig fault memory (lines, rows, full, is) fails = full-stops (Grid job) n text first fault lines rest rows full memory fails

body-fail : (kind : Kind) (n : ℕ) (head text rest : List ℕ) (first : ℕ) (fig : Figure) (fault : TextFault) → fault ≢ NoMemory → IsBody kind n head text rest fig → BodyFails kind n text first fault → ⊥
body-fail (Grid job) n head text rest first fig fault memory body fails = grid-fail n head text rest first job fig fault memory body fails
body-fail Bars n head text rest first fig fault memory body fails = bars-fail n head text rest first fig fault memory body fails
body-fail Rects n head text rest first fig fault memory (lines, rows, full, is) fails = full-stops Rects n text first fault lines rest rows full memory fails
body-fail (Witness kind) n head text rest first fig fault memory (graph, lines, of, rows, full, is) fails = full-stops (Witness kind) n text first fault lines rest rows full memory fails

bars-fails-unique : (n : ℕ) (text : List ℕ) (first : ℕ) (fault fault' : TextFault) → fault ≢ NoMemory → fault' ≢ NoMemory → BodyFails Bars n text first fault → BodyFails Bars n text first fault' → fault ≡ fault'
bars-fails-unique n text first fault fault' memory memory' (inl fails) (inl fails') = rows-fail-unique Bars n text first fault fault' memory memory' fails fails'
bars-fails-unique n text first fault fault' memory memory' (inl fails) (inr fails') =
    let none = NoColumns-from_fail n text first fault' memory' fails' in absurd (full-stops Bars n text first fault none.lines none.rest none.rows none.full memory fails)
bars-fails-unique n text first fault fault' memory memory' (inr fails) (inl fails') =
    let none = NoColumns-from_fail n text first fault memory fails in absurd (full-stops Bars n text first fault' none.lines none.rest none.rows none.full memory' fails')
bars-fails-unique n text first fault fault' memory memory' (inr fails) (inr fails') =
    NoColumns-unique n text first fault fault' (NoColumns-from_fail n text first fault memory fails) (NoColumns-from_fail n text first fault' memory' fails')

body-fails-unique : (kind : Kind) (n : ℕ) (text : List ℕ) (first : ℕ) (fault fault' : TextFault) → fault ≢ NoMemory → fault' ≢ NoMemory → BodyFails kind n text first fault → BodyFails kind n text first fault' → fault ≡ fault'
body-fails-unique (Grid job) n text first fault fault' memory memory' fails fails' = rows-fail-unique (Grid job) n text first fault fault' memory memory' fails fails'
body-fails-unique Bars n text first fault fault' memory memory' fails fails' = bars-fails-unique n text first fault fault' memory memory' fails fails'
body-fails-unique Rects n text first fault fault' memory memory' fails fails' = rows-fail-unique Rects n text first fault fault' memory memory' fails fails'
body-fails-unique (Witness kind) n text first fault fault' memory memory' fails fails' = rows-fail-unique (Witness kind) n text first fault fault' memory memory' fails fails'

-- a body gives one figure, and leaves one rest
body-unique : (kind : Kind) (n : ℕ) (head text rest rest' : List ℕ) (fig fig' : Figure) → IsBody kind n head text rest fig → IsBody kind n head text rest' fig' → (fig ≡ fig') × (rest ≡ rest')
body-unique (Grid job) n head text rest rest' fig fig' (lines, rows, full, is) (lines', rows', full', is') =
    let same = Rows-unique (Grid job) text lines lines' rest rest' rows rows' (full ∙ sym full') in
    (is ∙ ap (λ (x : List (List ℕ)). GridFigure job (of_lines (vertices_from 4) x) (of_lines point_of x)) same.0 ∙ sym is', same.1)
body-unique Bars n head text rest rest' fig fig' (lines, columns, rows, full, plain, shaped, within, is) (lines', columns', rows', full', plain', shaped', within', is') =
    let same = Rows-unique Bars text lines lines' (columns ++ 10 ∷ rest) (columns' ++ 10 ∷ rest') rows rows' (full ∙ sym full') in
    let line = IsLine-unique (columns ++ 10 ∷ rest) columns columns' rest rest' (record { parts = refl; plain = plain }) (record { parts = same.1; plain = plain' }) in
    (is ∙ ap₂ (λ (x : List (List ℕ)) (c : List ℕ). BarsFigure (of_lines (vertices_from 6) x) (bars_of x c)) same.0 line.0 ∙ sym is', line.1)
body-unique Rects n head text rest rest' fig fig' (lines, rows, full, is) (lines', rows', full', is') =
    let same = Rows-unique Rects text lines lines' rest rest' rows rows' (full ∙ sym full') in
    (is ∙ ap (λ (x : List (List ℕ)). RectsFigure (of_lines (vertices_from 7) x) (rects_of x)) same.0 ∙ sym is', same.1)
body-unique (Witness kind) n head text rest rest' fig fig' (graph, lines, of, rows, full, is) (graph', lines', of', rows', full', is') =
    let same = Rows-unique (Witness kind) text lines lines' rest rest' rows rows' (full ∙ sym full') in
    (is ∙ ap₂ (λ (g : EdgeGraph) (x : List (List ℕ)). WitnessFigure g (witness_of kind (of_lines (vertices_from 1) x))) (one_graph (part_at head 4) graph graph' of of') same.0 ∙ sym is', same.1)

-- behind a first line there is one answer
behind-unique : (kind : Kind) (n : ℕ) (head bytes text : List ℕ) (first : ℕ) (r s : Result Item TextFault) → r ≢ Err NoMemory → s ≢ Err NoMemory → Behind kind n head bytes text first r → Behind kind n head bytes text first s → r ≡ s
behind-unique kind n head bytes text first (Ok (Note next after)) s memory memory' none answer = absurd none
behind-unique kind n head bytes text first (Ok End) s memory memory' none answer = absurd none
behind-unique kind n head bytes text first (Ok (Drawn fig next after)) (Ok (Note next' after')) memory memory' answer none = absurd none
behind-unique kind n head bytes text first (Ok (Drawn fig next after)) (Ok End) memory memory' answer none = absurd none
behind-unique kind n head bytes text first (Ok (Drawn fig next after)) (Ok (Drawn fig' next' after')) memory memory' (body, within, counted) (body', within', counted') =
    let same = body-unique kind n head text (drop next bytes) (drop next' bytes) fig fig' body body' in
    ap (λ (i : Item). Ok i) (drawn-unique bytes fig fig' next next' after after' (first + 1 + lines_due kind n) within within' same.0 same.1 counted counted')
behind-unique kind n head bytes text first (Ok (Drawn fig next after)) (Err fault) memory memory' (body, within, counted) fails =
    absurd (body-fail kind n head text (drop next bytes) first fig fault (no_memory memory') body fails)
behind-unique kind n head bytes text first (Err fault) (Ok (Note next after)) memory memory' fails none = absurd none
behind-unique kind n head bytes text first (Err fault) (Ok End) memory memory' fails none = absurd none
behind-unique kind n head bytes text first (Err fault) (Ok (Drawn fig next after)) memory memory' fails (body, within, counted) =
    absurd (body-fail kind n head text (drop next bytes) first fig fault (no_memory memory) body fails)
behind-unique kind n head bytes text first (Err fault) (Err fault') memory memory' fails fails' =
    ap (λ (f : TextFault). Err f) (body-fails-unique kind n text first fault fault' (no_memory memory) (no_memory memory') fails fails')

-- what an answer says of a first line that begins no figure
abbrev Unopened : List ℕ → ℕ → Result Item TextFault → Type 0
Unopened line first r = ((¬ IsFirstLine line) × (r ≡ Err (BadLine first))) ⊎ (IsFirstLine line × (¬ FirstInRange line) × (r ≡ Err (Limit first)))

unopened-unique : (line : List ℕ) (first : ℕ) (r s : Result Item TextFault) → Unopened line first r → Unopened line first s → r ≡ s
unopened-unique line first r s (inl (not, is)) (inl (not', is')) = is ∙ sym is'
unopened-unique line first r s (inl (not, is)) (inr (shaped, not', is')) = absurd (not shaped)
unopened-unique line first r s (inr (shaped, not, is)) (inl (not', is')) = absurd (not' shaped)
unopened-unique line first r s (inr (shaped, not, is)) (inr (shaped', not', is')) = is ∙ sym is'

unopened-head : (line : List ℕ) (first : ℕ) (r : Result Item TextFault) (kind : Kind) (n : ℕ) → Unopened line first r → IsHead kind n line → ⊥
unopened-head line first r kind n (inl (not, is)) head = not head.shape
unopened-head line first r kind n (inr (shaped, not, is)) head = not head.range

-- what an answer says where a line is closed: it is a note, or begins no figure, or begins one
record AtNote (bytes line rest : List ℕ) (first : ℕ) (r : Result Item TextFault) : Type 0 where
  next : ℕ
  after : ℕ
  is : r ≡ Ok (Note next after)
  note : IsTrue (is_note line)
  left : rest ≡ drop next bytes
  within : next ≤ length bytes
  counted : after ≡ first + 1

abbrev Opened : List ℕ → List ℕ → List ℕ → ℕ → Result Item TextFault → Type 0
Opened bytes line rest first r = (kind : Kind) × (n : ℕ) × IsHead kind n line × Behind kind n line bytes rest first r

abbrev AtLine : List ℕ → List ℕ → List ℕ → ℕ → Result Item TextFault → Type 0
AtLine bytes line rest first r = AtNote bytes line rest first r ⊎ (IsFalse (is_note line) × (Unopened line first r ⊎ Opened bytes line rest first r))

note-unique : (bytes line rest : List ℕ) (first : ℕ) (r s : Result Item TextFault) → AtNote bytes line rest first r → AtNote bytes line rest first s → r ≡ s
note-unique bytes line rest first r s h h' =
    let places : h.next ≡ h'.next = offset-unique bytes h.next h'.next h.within h'.within (sym h.left ∙ h'.left) in
    h.is ∙ ap₂ (λ (x : ℕ) (y : ℕ). Ok (Note x y)) places (h.counted ∙ sym h'.counted) ∙ sym h'.is

not_both : (b : Bool) → IsTrue b → IsFalse b → ⊥
not_both b is not = cc

opened-unique : (bytes line rest : List ℕ) (first : ℕ) (r s : Result Item TextFault) → IsTold r → IsTold s → Opened bytes line rest first r → Opened bytes line rest first s → r ≡ s
opened-unique bytes line rest first r s told told' (kind, n, head, behind) (kind', n', head', behind') = grind (arith, Kind, rows_due, words_of, behind-unique, Behind, Some)

line-unique : (bytes line rest : List ℕ) (first : ℕ) (r s : Result Item TextFault) → IsTold r → IsTold s → AtLine bytes line rest first r → AtLine bytes line rest first s → r ≡ s
line-unique bytes line rest first r s told told' (inl note) (inl note') = note-unique bytes line rest first r s note note'
line-unique bytes line rest first r s told told' (inl note) (inr (other, answer)) = absurd (not_both (is_note line) note.note other)
line-unique bytes line rest first r s told told' (inr (other, answer)) (inl note) = absurd (not_both (is_note line) note.note other)
line-unique bytes line rest first r s told told' (inr (other, inl answer)) (inr (other', inl answer')) = unopened-unique line first r s answer answer'
line-unique bytes line rest first r s told told' (inr (other, inl answer)) (inr (other', inr (kind, n, head, behind))) = absurd (unopened-head line first r kind n answer head)
line-unique bytes line rest first r s told told' (inr (other, inr (kind, n, head, behind))) (inr (other', inl answer)) = absurd (unopened-head line first s kind n answer head)
line-unique bytes line rest first r s told told' (inr (other, inr opened)) (inr (other', inr opened')) = opened-unique bytes line rest first r s told told' opened opened'

-- each answer is one of these
begins-at : (bytes text line rest left : List ℕ) (first : ℕ) (kind : Kind) (n : ℕ) (r : Result Item TextFault) → IsLine text line rest → (begins : Begins kind n text left) → Behind kind n begins.line bytes left first r → AtLine bytes line rest first r
begins-at bytes text line rest left first kind n r is begins behind =
    let same = IsLine-unique text begins.line line left rest begins.is is in
    inr (
      subst (λ (x : List ℕ). IsFalse (is_note x)) same.0 begins.other,
      inr (kind, n, subst (λ (x : List ℕ). IsHead kind n x) same.0 begins.head, subst (λ (x : List ℕ). Behind kind n line bytes x first r) same.1 (subst (λ (x : List ℕ). Behind kind n x bytes left first r) same.0 behind)),
    )

end-no_line : (bytes line rest : List ℕ) (at : ℕ) → at ≡ length bytes → IsLine (drop at bytes) line rest → ⊥
end-no_line bytes line rest at end is =
    absurd (omega (arith, sym (length-drop at bytes) ∙ ap length is.parts ∙ length-append line (10 ∷ rest)))

at-line : (bytes line rest : List ℕ) (at first : ℕ) (r : Result Item TextFault) → IsTold r → IsLine (drop at bytes) line rest → IsAnswer bytes at first r → AtLine bytes line rest first r
at-line bytes line rest at first (Ok (Note next after)) told is (line', is', note, within, counted) =
    let same = IsLine-unique (drop at bytes) line' line (drop next bytes) rest is' is in
    inl (record { next = next; after = after; is = refl; note = subst (λ (x : List ℕ). IsTrue (is_note x)) same.0 note; left = sym same.1; within = within; counted = counted })
at-line bytes line rest at first (Ok End) told is end = absurd (end-no_line bytes line rest at end is)
at-line bytes line rest at first (Ok (Drawn fig next after)) told is (kind, n, text, begins, drawn) =
    begins-at bytes (drop at bytes) line rest text first kind n (Ok (Drawn fig next after)) is begins drawn
at-line bytes line rest at first (Err fault) told is (inr (kind, n, text, begins, fails)) =
    begins-at bytes (drop at bytes) line rest text first kind n (Err fault) is begins fails
at-line bytes line rest at first (Err (BadLine k)) told is (inl (same, inl (plain, some))) = absurd (IsPlain-no_line (drop at bytes) line rest plain is)
at-line bytes line rest at first (Err (BadLine k)) told is (inl (same, inr (line', left, is', other, not))) =
    let one = IsLine-unique (drop at bytes) line' line left rest is' is in
    inr (subst (λ (x : List ℕ). IsFalse (is_note x)) one.0 other, inl (inl (subst (λ (x : List ℕ). ¬ IsFirstLine x) one.0 not, ap (λ (j : ℕ). Err (BadLine j)) same)))
at-line bytes line rest at first (Err (Limit k)) told is (inl (same, (line', left, is', other, shaped, not))) =
    let one = IsLine-unique (drop at bytes) line' line left rest is' is in
    inr (
      subst (λ (x : List ℕ). IsFalse (is_note x)) one.0 other,
      inl (inr (subst (λ (x : List ℕ). IsFirstLine x) one.0 shaped, subst (λ (x : List ℕ). ¬ FirstInRange x) one.0 not, ap (λ (j : ℕ). Err (Limit j)) same)),
    )
at-line bytes line rest at first (Err (EndInFigure k)) told is (inl none) = absurd none
at-line bytes line rest at first (Err NoMemory) told is (inl memory) = absurd (told refl)

-- where no line is closed
abbrev AtPlain : List ℕ → ℕ → ℕ → Result Item TextFault → Type 0
AtPlain bytes at first r = ((at ≡ length bytes) × (r ≡ Ok End)) ⊎ ((0 < length (drop at bytes)) × (r ≡ Err (BadLine first)))

at-plain : (bytes : List ℕ) (at first : ℕ) (r : Result Item TextFault) → IsTold r → IsPlain (drop at bytes) → IsAnswer bytes at first r → AtPlain bytes at first r
at-plain bytes at first (Ok (Note next after)) told plain (line, is, note, within, counted) = absurd (IsPlain-no_line (drop at bytes) line (drop next bytes) plain is)
at-plain bytes at first (Ok (Drawn fig next after)) told plain (kind, n, text, begins, drawn) = absurd (IsPlain-no_line (drop at bytes) begins.line text plain begins.is)
at-plain bytes at first (Ok End) told plain end = inl (end, refl)
at-plain bytes at first (Err fault) told plain (inr (kind, n, text, begins, fails)) = absurd (IsPlain-no_line (drop at bytes) begins.line text plain begins.is)
at-plain bytes at first (Err (BadLine k)) told plain (inl (same, inl (open_line, some))) = inr (some, ap (λ (j : ℕ). Err (BadLine j)) same)
at-plain bytes at first (Err (BadLine k)) told plain (inl (same, inr (line, left, is, other, not))) = absurd (IsPlain-no_line (drop at bytes) line left plain is)
at-plain bytes at first (Err (Limit k)) told plain (inl (same, (line, left, is, other, shaped, not))) = absurd (IsPlain-no_line (drop at bytes) line left plain is)
at-plain bytes at first (Err (EndInFigure k)) told plain (inl none) = absurd none
at-plain bytes at first (Err NoMemory) told plain (inl memory) = absurd (told refl)

plain-unique : (bytes : List ℕ) (at first : ℕ) (r s : Result Item TextFault) → AtPlain bytes at first r → AtPlain bytes at first s → r ≡ s
plain-unique bytes at first r s (inl (end, is)) (inl (end', is')) = is ∙ sym is'
plain-unique bytes at first r s (inl (end, is)) (inr (some, is')) = absurd (omega (arith, end, some, length-drop at bytes))
plain-unique bytes at first r s (inr (some, is)) (inl (end, is')) = absurd (omega (arith, end, some, length-drop at bytes))
plain-unique bytes at first r s (inr (some, is)) (inr (some', is')) = is ∙ sym is'

-- a text has a closed line at its front, or none
pub line-or-plain : (text : List ℕ) → IsPlain text ⊎ ((line : List ℕ) × (rest : List ℕ) × IsLine text line rest)
line-or-plain [] = inl (All-nil (λ b. b ≢ 10))
line-or-plain (b ∷ text) = by_byte (cases_eq b 10) (line-or-plain text)
  where
    by_byte : (b ≡ 10) ⊎ (b ≢ 10) → IsPlain text ⊎ ((line : List ℕ) × (rest : List ℕ) × IsLine text line rest) → IsPlain (b ∷ text) ⊎ ((line : List ℕ) × (rest : List ℕ) × IsLine (b ∷ text) line rest)
    by_byte (inl ends) found = inr ([], text, record { parts = ap (λ (x : ℕ). x ∷ text) ends; plain = All-nil (λ b. b ≢ 10) })
    by_byte (inr other) (inl plain) = inl (All-cons (λ b. b ≢ 10) b text other plain)
    by_byte (inr other) (inr (line, rest, is)) = inr (b ∷ line, rest, record { parts = ap (λ (x : List ℕ). b ∷ x) is.parts; plain = All-cons (λ b. b ≢ 10) b line other is.plain })

pub one-answer : OneAnswer
one-answer bytes at first within r s answer answer' told told' =
    elim (line-or-plain (drop at bytes)) [
      | inl plain ↦ plain-unique bytes at first r s (at-plain bytes at first r told plain answer) (at-plain bytes at first s told' plain answer')
      | inr found ↦ line-unique bytes found.0 found.1 first r s told told' (at-line bytes found.0 found.1 at first r told found.2 answer) (at-line bytes found.0 found.1 at first s told' found.2 answer')
    ]
