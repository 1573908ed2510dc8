-- What a closed line does to the progress.
use Rattle.std.proofs.Common.{◌≡◌, ◌≢◌, ℕ, ◌+◌, ◌-◌, ◌<◌, ◌≤◌, List, [], ◌∷◌, ◌++◌, length, drop, take, refl, sym, ap, ◌∙◌, subst, arith, append_assoc, length-append, inl, inr, Bool, true, false, pos, min, below_more}
use Rattle.std.specs.Prelude.{neg_ℤ, Ok, Option, Some, None, IsTrue, IsFalse, ◌⊎◌}
use Rattle.std.proofs.lemmas.Int.{ints}
use Rattle.std.proofs.Math.ListN.{get_or-append}
use Rattle.std.proofs.Math.Seq.{get_or-append_seam, drop-length, take-append-add}
use Rattle.pg_plane.specs.declared.grid_points.Point.{Point}
use Rattle.pg_plane.specs.Range.{IsInRange, IsWithin}
use Rattle.std.proofs.lemmas.List.{length-map, length-drop, drop-drop}
use Rattle.std.proofs.lemmas.List.Elements.{All-nil}
use Rattle.record_runs.specs.Texts.{input_limit}
use Rattle.figure_text.specs.declared.figure.Figure.{Figure}
use Rattle.figure_text.specs.declared.figure.Figure.TheVariants.{Grid as GridFigure, Bars as BarsFigure, Rects as RectsFigure, Witness as WitnessFigure}
use Rattle.figure_text.specs.declared.line_shapes.Kind.{Kind}
use Rattle.figure_text.specs.declared.line_shapes.Kind.TheVariants.{Grid, Bars, Rects, Witness}
use Rattle.figure_text.specs.declared.vertex_lines.Draft.{Draft}
use Rattle.figure_text.specs.declared.fault.TextFault.{TextFault}
use Rattle.figure_text.specs.declared.fault.TextFault.TheVariants as fault
use Rattle.figure_text.specs.declared.figure_ends.Item.TheVariants.{Drawn, Note}
use Rattle.figure_text.specs.Words.{words_of, word_at}
use Rattle.figure_text.specs.declared.line_words.Word.{Word}
use Rattle.figure_text.specs.declared.line_words.Word.TheVariants.{Number, Closing, Named, Other}
use Rattle.figure_text.specs.Text.{point_at}
use Rattle.figure_text.specs.Lines.{IsFirstLine, FirstInRange, rows_due, IsColumnsLine, ColumnsInRange, integer_of, signed_value}
use Rattle.figure_text.specs.Reading.{IsPlain, IsLine, Rows, RowsFail, IsRow, RowInRange, IsGoodRow, is_note, vertices_from, point_of}
use Rattle.figure_text.specs.Front.{IsFirstOf}
use Rattle.figure_text.specs.Drafts.{drafted, with_row, integer_in}
use Rattle.figure_text.specs.Figures.{IsHead, IsBody, Begins, FirstFails, BodyFails, lines_due, columns_of, witness_of}
use Rattle.figure_text.proofs.UniqueRows.{plain-front}
use Rattle.figure_text.proofs.RowLemmas.{Rows-more as Rows-push, drafted-more}
use Rattle.figure_text.specs.Laws.{IsAnswer}
use Rattle.line_inputs.specs.FigureLinesReading.{AreItems, EndsAs, IsReading}
use Rattle.line_inputs.specs.Heads.{head_kind, HasGraph}
use Rattle.line_inputs.specs.declared.figure_lines.first_line.Head.{Head}
use Rattle.line_inputs.specs.declared.figure_lines.first_line.Head.TheVariants.{Grid as GridHead, Bars as BarsHead, Rects as RectsHead, Witness as WitnessHead}
use Rattle.line_inputs.specs.Given.{AreDrawn}
use Rattle.line_inputs.specs.FigureLinesProgress.{IsBegun, IsDue, Progress, Makes, Closes}
use Rattle.line_inputs.specs.declared.figure_lines.vertex_lines.Rows.{Rows as Content}
use Rattle.line_inputs.specs.Steps.{no_lines, GoesOn, IsMadeOf, IsGrown}
use Rattle.line_inputs.specs.declared.figure_lines.closed_line.After.{After}
use Rattle.line_inputs.specs.declared.figure_lines.closed_line.After.TheVariants.{Goes, Whole, Bad}
use Rattle.line_inputs.specs.declared.figure_lines.ending.Ending.{Ending}
use Rattle.line_inputs.specs.declared.figure_lines.ending.Ending.TheVariants.{Well, BadLine, Limit, EndInFigure, TooLong}
use Rattle.line_inputs.specs.declared.figure_lines.begun_figure.Begun.{Begun}
use Rattle.line_inputs.specs.declared.figure_lines.begun_figure.Due.{Due}
use Rattle.line_inputs.specs.declared.figure_lines.begun_figure.Due.TheVariants.{Row, Columns}
use Rattle.line_inputs.proofs.MoreLemmas.{drop-more, within-more, IsLine-more, Rows-more}
use Rattle.line_inputs.proofs.ItemLemmas.{AreItems-more, AreItems-drawn, AreItems-note, figures_of-drawn, figures_of-note}

-- a line is closed at the front of a text
pub IsLine-here : (line rest : List ℕ) → IsPlain line → IsLine (line ++ 10 ∷ rest) line rest
IsLine-here line rest plain = record { parts = refl; plain = plain }

pub IsPlain-none : IsPlain []
IsPlain-none = All-nil (λ b. b ≢ 10)

-- a figure that has begun, and more bytes
pub IsBegun-more : (head : Head) (n first line : ℕ) (draft : Draft) (text rest more : List ℕ) → IsBegun head n first line draft text rest → IsBegun head n first line draft (text ++ more) (rest ++ more)
IsBegun-more head n first line draft text rest more b = record {
  body = b.body ++ more;
  begins = record { line = b.begins.line; is = IsLine-more text b.begins.line b.body more b.begins.is; other = b.begins.other; head = b.begins.head };
  graph = b.graph;
  lines = b.lines;
  rows = Rows-more (head_kind head) b.body b.lines rest more b.rows;
  counted = b.counted;
  gives = b.gives;
}

-- as many lists as lines
drafted-lists : (kind : Kind) (lines : List (List ℕ)) → length (drafted kind lines).lists ≡ length lines
drafted-lists (Grid job) lines = length-map lines (λ l. vertices_from 4 (words_of l))
drafted-lists Bars lines = length-map lines (λ l. vertices_from 6 (words_of l))
drafted-lists Rects lines = length-map lines (λ l. vertices_from 7 (words_of l))
drafted-lists (Witness kind) lines = length-map lines (λ l. vertices_from 1 (words_of l))

pub lists-lines : {head : Head} {n first line : ℕ} {draft : Draft} {text rest : List ℕ} (b : IsBegun head n first line draft text rest) → length draft.lists ≡ length b.lines
lists-lines {head = head} b = ap (λ (d : Draft). length d.lists) b.gives ∙ drafted-lists (head_kind head) b.lines

-- the line of a vertex does not come
pub row-body : (kind : Kind) (n : ℕ) (text : List ℕ) (first : ℕ) (f : TextFault) → RowsFail kind n text first f → BodyFails kind n text first f
row-body (Grid job) n text first f fails = fails
row-body Bars n text first f fails = inl fails
row-body Rects n text first f fails = fails
row-body (Witness kind) n text first f fails = fails

-- why nothing stands at the front of a text
abbrev pub Fails : List ℕ → ℕ → TextFault → Type 0
Fails text line f = FirstFails text line f ⊎ ((kind : Kind) × (n : ℕ) × (body : List ℕ) × Begins kind n text body × BodyFails kind n body line f)

-- its first line has another shape
pub fails-bad : (line rest : List ℕ) (number : ℕ) → IsPlain line → IsFalse (is_note line) → ¬ IsFirstLine line → Fails (line ++ 10 ∷ rest) number (fault.BadLine number)
fails-bad line rest number plain other not = inl (refl, inr (line, rest, IsLine-here line rest plain, other, not))

-- or a number outside its range
pub fails-limit : (line rest : List ℕ) (number : ℕ) → IsPlain line → IsFalse (is_note line) → IsFirstLine line → ¬ FirstInRange line → Fails (line ++ 10 ∷ rest) number (fault.Limit number)
fails-limit line rest number plain other shape not = inl (refl, (line, rest, IsLine-here line rest plain, other, shape, not))

-- a first line as it is read
pub IsHead-of : (kind : Kind) (n : ℕ) (line : List ℕ) → IsFirstOf kind line → FirstInRange line → rows_due kind (words_of line) ≡ n → IsHead kind n line
IsHead-of kind n line first range count = record { shape = first.shape; range = range; job = first.job; rows = count }

-- the line of a vertex has another shape, or a number outside its range
pub fails-row : {head : Head} {n first number : ℕ} {draft : Draft} {text : List ℕ} (line rest : List ℕ) (b : IsBegun head n first number draft text (line ++ 10 ∷ rest)) → length b.lines < n → IsPlain line → ¬ IsRow (head_kind head) (length b.lines + 1) (words_of line) → Fails text first (fault.BadLine number)
fails-row {head = head} {n = n} {first = first} {number = number} line rest b few plain not =
    inr (head_kind head, n, b.body, b.begins, row-body (head_kind head) n b.body first (fault.BadLine number) (b.lines, line, rest, record { rows = b.rows; few = few }, plain, not, b.counted))

pub fails-row_limit : {head : Head} {n first number : ℕ} {draft : Draft} {text : List ℕ} (line rest : List ℕ) (b : IsBegun head n first number draft text (line ++ 10 ∷ rest)) → length b.lines < n → IsPlain line → IsRow (head_kind head) (length b.lines + 1) (words_of line) → ¬ RowInRange (head_kind head) (words_of line) → Fails text first (fault.Limit number)
fails-row_limit {head = head} {n = n} {first = first} {number = number} line rest b few plain shaped not =
    inr (head_kind head, n, b.body, b.begins, row-body (head_kind head) n b.body first (fault.Limit number) (b.lines, line, rest, record { rows = b.rows; few = few }, plain, shaped, not, b.counted))

-- so does that of the columns
pub fails-columns : {n first number : ℕ} {draft : Draft} {text : List ℕ} (line rest : List ℕ) (b : IsBegun BarsHead n first number draft text (line ++ 10 ∷ rest)) → length b.lines ≡ n → IsPlain line → ¬ IsColumnsLine (words_of line) → Fails text first (fault.BadLine number)
fails-columns {n = n} {first = first} line rest b full plain not =
    inr (Bars, n, b.body, b.begins, inr (b.lines, line, rest, b.rows, full, plain, not, b.counted ∙ ap (λ (k : ℕ). first + 1 + k) full))

pub fails-columns_limit : {n first number : ℕ} {draft : Draft} {text : List ℕ} (line rest : List ℕ) (b : IsBegun BarsHead n first number draft text (line ++ 10 ∷ rest)) → length b.lines ≡ n → IsPlain line → IsColumnsLine (words_of line) → ¬ ColumnsInRange (words_of line) → Fails text first (fault.Limit number)
fails-columns_limit {n = n} {first = first} line rest b full plain shaped not =
    inr (Bars, n, b.body, b.begins, inr (b.lines, line, rest, b.rows, full, plain, shaped, not, b.counted ∙ ap (λ (k : ℕ). first + 1 + k) full))

-- what was closed with a byte 10, and more
closed-more : (bytes more : List ℕ) → (bytes ++ 10 ∷ []) ++ more ≡ bytes ++ (10 ∷ more)
closed-more bytes more = append_assoc bytes (10 ∷ []) more

-- a text that fails however it goes on
fails-closed : (text : List ℕ) (first : ℕ) (f : TextFault) → ((more : List ℕ) → Fails (text ++ (10 ∷ more)) first f) → (more : List ℕ) → Fails ((text ++ 10 ∷ []) ++ more) first f
fails-closed text first f fails more = subst (λ (x : List ℕ). Fails x first f) (sym (closed-more text more)) (fails more)

-- a line outside a figure
module _ (number : ℕ) (line : List ℕ) (plain : IsPlain line) where
  -- it is bad
  pub makes-bad : IsFalse (is_note line) → ¬ IsFirstLine line → Makes number number (line ++ 10 ∷ []) (Bad (BadLine number))
  makes-bad other not = (tt, fails-closed line number (fault.BadLine number) (λ more. fails-bad line more number plain other not))

  pub makes-limit : IsFalse (is_note line) → IsFirstLine line → ¬ FirstInRange line → Makes number number (line ++ 10 ∷ []) (Bad (Limit number))
  makes-limit other shape not = (tt, fails-closed line number (fault.Limit number) (λ more. fails-limit line more number plain other shape not))

  -- it is a note
  pub makes-note : IsTrue (is_note line) → Makes number number (line ++ 10 ∷ []) (Goes None)
  makes-note note =
      let le : length (line ++ 10 ∷ []) ≤ length (line ++ 10 ∷ []) = omega arith in
      (line, subst (λ (x : List ℕ). IsLine (line ++ 10 ∷ []) line x) (sym (drop-length (line ++ 10 ∷ []))) (IsLine-here line [] plain), note, le, refl)

  -- it begins a figure
  pub makes-head : (head : Head) (n : ℕ) (held : Content) → held ≡ record { head = head; n = n; draft = no_lines } → IsFalse (is_note line) → IsHead (head_kind head) n line → HasGraph head line → (number ≡ number) × IsBegun held.head held.n number (number + 1) held.draft (line ++ 10 ∷ []) []
  makes-head head n held fresh other says graph =
      let begins : IsBegun head n number (number + 1) no_lines (line ++ 10 ∷ []) [] = record {
        body = [];
        begins = record { line = line; is = IsLine-here line [] plain; other = other; head = says };
        graph = graph;
        lines = [];
        rows = record { parts = refl; plain = All-nil IsPlain; good = λ i h. absurd (omega arith) };
        counted = omega arith;
        gives = none-drafted (head_kind head);
      } in
      let P : Content → Type 0 = λ rows. IsBegun rows.head rows.n number (number + 1) rows.draft (line ++ 10 ∷ []) [] in
      (refl, subst P (sym fresh) begins)
    where
      none-drafted : (kind : Kind) → no_lines ≡ drafted kind []
      none-drafted (Grid job) = refl
      none-drafted Bars = refl
      none-drafted Rects = refl
      none-drafted (Witness kind) = refl

-- the line of a figure that is due
module _ (text : List ℕ) (first number : ℕ) (line : List ℕ) (plain : IsPlain line) where
  -- the figure is whole
  is_whole : (kind : Kind) (n : ℕ) (body : List ℕ) (fig : Figure) (begins : Begins kind n (text ++ 10 ∷ []) body) → IsBody kind n begins.line body [] fig → number + 1 ≡ first + 1 + lines_due kind n → Makes first number (text ++ 10 ∷ []) (Whole fig)
  is_whole kind n body fig begins is counted =
      let le : length (text ++ 10 ∷ []) ≤ length (text ++ 10 ∷ []) = omega arith in
      (kind, n, body, begins, (subst (λ (x : List ℕ). IsBody kind n begins.line body x fig) (sym (drop-length (text ++ 10 ∷ []))) is, le, counted))

  module _ (head : Head) (n : ℕ) (draft : Draft) (b : IsBegun head n first number draft text line) where
    begun-more : (more : List ℕ) → IsBegun head n first number draft (text ++ (10 ∷ more)) (line ++ (10 ∷ more))
    begun-more more = IsBegun-more head n first number draft text line (10 ∷ more) b

    -- what is read of it so far
    begins-now : Begins (head_kind head) n (text ++ 10 ∷ []) (b.body ++ 10 ∷ [])
    begins-now = record {
      line = b.begins.line;
      is = IsLine-more text b.begins.line b.body (10 ∷ []) b.begins.is;
      other = b.begins.other;
      head = b.begins.head;
    }

    rows-now : Rows (head_kind head) (b.body ++ 10 ∷ []) b.lines (line ++ 10 ∷ [])
    rows-now = Rows-more (head_kind head) b.body b.lines line (10 ∷ []) b.rows

    -- the line of a vertex is bad
    pub makes-bad_row : length draft.lists < n → ¬ IsRow (head_kind head) (length draft.lists + 1) (words_of line) → Makes first number (text ++ 10 ∷ []) (Bad (BadLine number))
    unfolding begun-more IsBegun-more
    makes-bad_row few not =
        (tt, fails-closed text first (fault.BadLine number) (λ more. fails-row line more (begun-more more) (subst (λ (k : ℕ). k < n) (lists-lines b) few) plain (subst (λ (k : ℕ). ¬ IsRow (head_kind head) (k + 1) (words_of line)) (lists-lines b) not)))

    pub makes-far_row : length draft.lists < n → IsRow (head_kind head) (length draft.lists + 1) (words_of line) → ¬ RowInRange (head_kind head) (words_of line) → Makes first number (text ++ 10 ∷ []) (Bad (Limit number))
    unfolding begun-more IsBegun-more
    makes-far_row few shaped not =
        (tt, fails-closed text first (fault.Limit number) (λ more. fails-row_limit line more (begun-more more) (subst (λ (k : ℕ). k < n) (lists-lines b) few) plain (subst (λ (k : ℕ). IsRow (head_kind head) (k + 1) (words_of line)) (lists-lines b) shaped) not))

    module _ (good : IsGoodRow (head_kind head) (length draft.lists + 1) line) (draft' : Draft) (is : draft' ≡ with_row (head_kind head) draft (words_of line)) where
      rows-push : Rows (head_kind head) (b.body ++ 10 ∷ []) (b.lines ++ line ∷ []) []
      rows-push = Rows-push (head_kind head) (b.body ++ 10 ∷ []) b.lines line [] rows-now plain (subst (λ (k : ℕ). IsGoodRow (head_kind head) (k + 1) line) (lists-lines b) good)

      counted-push : number + 1 ≡ first + 1 + length (b.lines ++ line ∷ [])
      counted-push = let c = b.counted in let l = length-append b.lines (line ∷ []) in omega arith

      gives-push : draft' ≡ drafted (head_kind head) (b.lines ++ line ∷ [])
      gives-push = is ∙ ap (λ (d : Draft). with_row (head_kind head) d (words_of line)) b.gives ∙ sym (drafted-more (head_kind head) b.lines line)

      begun-push : IsBegun head n first (number + 1) draft' (text ++ 10 ∷ []) []
      unfolding begins-now
      begun-push = record {
        body = b.body ++ 10 ∷ [];
        begins = begins-now;
        graph = b.graph;
        lines = b.lines ++ line ∷ [];
        rows = rows-push;
        counted = counted-push;
        gives = gives-push;
      }

      lists-push : length draft'.lists ≡ length (b.lines ++ line ∷ [])
      lists-push = ap (λ (d : Draft). length d.lists) gives-push ∙ drafted-lists (head_kind head) (b.lines ++ line ∷ [])

    -- a figure is whole with this line
    makes-made : IsGoodRow (head_kind head) (length draft.lists + 1) line → (draft' : Draft) → draft' ≡ with_row (head_kind head) draft (words_of line) → length draft'.lists ≡ n → (fig : Figure) → IsMadeOf head draft' fig → Makes first number (text ++ 10 ∷ []) (Whole fig)
    unfolding begins-now
    makes-made good draft' is full fig made =
        let rows = rows-push good draft' is in
        let count : length (b.lines ++ line ∷ []) ≡ n = sym (lists-push good draft' is) ∙ full in
        by_head head n (b.body ++ 10 ∷ []) (b.lines ++ line ∷ []) draft' fig begins-now b.graph rows count (gives-push good draft' is) made (counted-push good draft' is ∙ ap (λ (k : ℕ). first + 1 + k) count)
      where
        by_head : (head : Head) (n : ℕ) (body : List ℕ) (lines : List (List ℕ)) (draft : Draft) (fig : Figure) (begins : Begins (head_kind head) n (text ++ 10 ∷ []) body) → HasGraph head begins.line → Rows (head_kind head) body lines [] → length lines ≡ n → draft ≡ drafted (head_kind head) lines → IsMadeOf head draft fig → number + 1 ≡ first + 1 + n → Makes first number (text ++ 10 ∷ []) (Whole fig)
        by_head (GridHead job) n body lines draft fig begins graph rows count gives made counted =
            is_whole (Grid job) n body fig begins (lines, rows, count, made ∙ ap (λ (d : Draft). GridFigure job d.lists d.points) gives) counted
        by_head BarsHead n body lines draft fig begins graph rows count gives none counted = absurd none
        by_head RectsHead n body lines draft fig begins graph rows count gives made counted =
            is_whole Rects n body fig begins (lines, rows, count, made ∙ ap (λ (d : Draft). RectsFigure d.lists (record { x1 = d.x1; x2 = d.x2; y1 = d.y; y2 = d.y2 })) gives) counted
        by_head (WitnessHead kind graph) n body lines draft fig begins of rows count gives made counted =
            is_whole (Witness kind) n body fig begins (graph, lines, of, rows, count, made ∙ ap (λ (d : Draft). WitnessFigure graph (witness_of kind d.lists)) gives) counted

    -- a figure goes on with another such line or with that of the columns
    due-push : IsGoodRow (head_kind head) (length draft.lists + 1) line → (draft' : Draft) → draft' ≡ with_row (head_kind head) draft (words_of line) → length draft'.lists ≤ n → (due : Due) → GoesOn head n draft' due → IsDue due first (number + 1) (text ++ 10 ∷ []) []
    due-push good draft' is within (Row rows) (few, same_head, same_n, same_draft) = rw (same_head, same_n, same_draft) (begun-push good draft' is)
    due-push good draft' is within (Columns bars) (full, same_head, same_draft) =
        let count : n ≡ length draft'.lists = omega arith in
        all_bars head n draft' bars.draft same_head count same_draft (begun-push good draft' is)
      where
        all_bars : (head : Head) (n : ℕ) (draft new : Draft) → head ≡ BarsHead → n ≡ length draft.lists → new ≡ draft → IsBegun head n first (number + 1) draft (text ++ 10 ∷ []) [] → IsBegun BarsHead (length new.lists) first (number + 1) new (text ++ 10 ∷ []) []
        all_bars head n draft new same_head count same b =
            rw same (subst (λ (k : Head). IsBegun k (length draft.lists) first (number + 1) draft (text ++ 10 ∷ []) []) same_head (subst (λ (k : ℕ). IsBegun head k first (number + 1) draft (text ++ 10 ∷ []) []) count b))

    -- the line is good
    pub makes-grown : IsGoodRow (head_kind head) (length draft.lists + 1) line → (draft' : Draft) → draft' ≡ with_row (head_kind head) draft (words_of line) → length draft'.lists ≤ n → (start : ℕ) → start ≡ first → (after : After) → IsGrown head n start draft' after → Makes first number (text ++ 10 ∷ []) after
    makes-grown good draft' is within start here (Goes (Some new)) (same, due) = (same ∙ here, due-push good draft' is within new.due due)
    makes-grown good draft' is within start here (Goes None) none = absurd none
    makes-grown good draft' is within start here (Whole fig) (full, made) = makes-made good draft' is (omega arith) fig made
    makes-grown good draft' is within start here (Bad end) none = absurd none

  -- the line of the columns
  module _ (draft : Draft) (b : IsBegun BarsHead (length draft.lists) first number draft text line) where
    pub makes-bad_columns : ¬ IsColumnsLine (words_of line) → Makes first number (text ++ 10 ∷ []) (Bad (BadLine number))
    unfolding begun-more IsBegun-more
    makes-bad_columns not =
        (tt, fails-closed text first (fault.BadLine number) (λ more. fails-columns line more (begun-more BarsHead (length draft.lists) draft b more) (sym (lists-lines b)) plain not))

    pub makes-far_columns : IsColumnsLine (words_of line) → ¬ ColumnsInRange (words_of line) → Makes first number (text ++ 10 ∷ []) (Bad (Limit number))
    unfolding begun-more IsBegun-more
    makes-far_columns shaped not =
        (tt, fails-closed text first (fault.Limit number) (λ more. fails-columns_limit line more (begun-more BarsHead (length draft.lists) draft b more) (sym (lists-lines b)) plain shaped not))

    pub makes-columns : IsColumnsLine (words_of line) → ColumnsInRange (words_of line) → (fig : Figure) → fig ≡ BarsFigure draft.lists (record { y = draft.y; x1 = draft.x1; x2 = draft.x2; column = columns_of (words_of line) }) → Makes first number (text ++ 10 ∷ []) (Whole fig)
    makes-columns shaped range fig is =
        let n : ℕ = length draft.lists in
        is_whole Bars n (b.body ++ 10 ∷ []) fig (begins-now BarsHead n draft b) (
          b.lines,
          line,
          rows-now BarsHead n draft b,
          sym (lists-lines b),
          plain,
          shaped,
          range,
          is ∙ ap (λ (d : Draft). BarsFigure d.lists (record { y = d.y; x1 = d.x1; x2 = d.x2; column = columns_of (words_of line) })) b.gives,
        )
        (let c = b.counted in let l = lists-lines b in omega arith)

-- an item at the front of what stands behind an offset
pub drawn-at : (bytes : List ℕ) (at first : ℕ) (fig : Figure) (next after : ℕ) → at ≤ length bytes → IsAnswer (drop at bytes) 0 first (Ok (Drawn fig next after)) → IsAnswer bytes at first (Ok (Drawn fig (at + next) after))
drawn-at bytes at first fig next after within (kind, n, text, begins, (body, inside, counted)) =
    let le : at + next ≤ length bytes = omega (arith, length-drop at bytes) in
    (kind, n, text, begins, (subst (λ (x : List ℕ). IsBody kind n begins.line text x fig) (drop-drop next at bytes) body, le, counted))

pub note-at : (bytes : List ℕ) (at first next after : ℕ) → at ≤ length bytes → IsAnswer (drop at bytes) 0 first (Ok (Note next after)) → IsAnswer bytes at first (Ok (Note (at + next) after))
note-at bytes at first next after within (line, is, note, inside, counted) =
    let le : at + next ≤ length bytes = omega (arith, length-drop at bytes) in
    (line, subst (λ (x : List ℕ). IsLine (drop at bytes) line x) (drop-drop next at bytes) is, note, le, counted)

-- what a closed line makes of what stands behind the items, and what is read then
module _ (consumed : List ℕ) (figures : List Figure) (number : ℕ) (line : List ℕ) (before : Option Begun) (p : Progress consumed figures number line before) where
  abbrev whole : List ℕ
  whole = consumed ++ 10 ∷ []

  abbrev text : List ℕ
  text = drop p.at whole

  inside : p.at ≤ length whole
  inside = within-more consumed (10 ∷ []) p.at p.within

  items-now : AreItems whole 0 1 p.items p.at p.first
  items-now = AreItems-more consumed (10 ∷ []) 0 1 p.items p.at p.first (omega arith) p.are

  -- an input ends badly with the line that is closed
  ends-here : (end : Ending) → length consumed < input_limit → ((more : List ℕ) (total : ℕ) → EndsAs total (whole ++ more) p.at p.first end) → (tail : List ℕ) → IsReading (whole ++ tail) figures end
  ends-here end short ends tail =
      let long = length-append consumed (10 ∷ []) in
      let k : ℕ = input_limit - length whole in
      let e : input_limit ≡ length whole + k = omega arith in
      let parts : take input_limit (whole ++ tail) ≡ whole ++ take k tail = ap (λ (n : ℕ). take n (whole ++ tail)) e ∙ take-append-add whole tail k in
      record {
        items = p.items;
        at = p.at;
        line = p.first;
        are = subst (λ (x : List ℕ). AreItems x 0 1 p.items p.at p.first) (sym parts) (AreItems-more whole (take k tail) 0 1 p.items p.at p.first (omega arith) items-now);
        figures_are = p.figures_are;
        ends = subst (λ (x : List ℕ). EndsAs (length (whole ++ tail)) x p.at p.first end) (sym parts) (ends (take k tail) (length (whole ++ tail)));
      }

  fails-here : (f : TextFault) → ((more : List ℕ) → Fails (text ++ more) p.first f) → (more : List ℕ) → Fails (drop p.at (whole ++ more)) p.first f
  fails-here f fails more = subst (λ (x : List ℕ). Fails x p.first f) (sym (drop-more whole more p.at inside)) (fails more)

  -- the line that is closed stands in what is left
  not-plain : (more : List ℕ) → ¬ IsPlain (drop p.at (whole ++ more))
  not-plain more plain =
      let parts : drop p.at (whole ++ more) ≡ drop p.at consumed ++ 10 ∷ more = ap (λ (x : List ℕ). drop p.at x) (closed-more consumed more) ∙ drop-more consumed (10 ∷ more) p.at p.within in
      plain-front (drop p.at consumed) more (subst IsPlain parts plain)

  none-left : drop (length whole) whole ≡ []
  none-left = drop-length whole

  ends-text : p.at + length text ≡ length whole
  ends-text = let l = length-drop p.at whole in let w = inside in omega arith

  closes-made : length consumed < input_limit → (after : After) → Makes p.first number text after → Closes whole figures number after
  closes-made short (Goes None) note = record {
    items = p.items ++ Note (length whole) (number + 1) ∷ [];
    at = length whole;
    first = number + 1;
    are = AreItems-note whole 0 1 p.items p.at p.first (length whole) (number + 1) items-now (subst (λ (k : ℕ). IsAnswer whole p.at p.first (Ok (Note k (number + 1)))) ends-text (note-at whole p.at p.first (length text) (number + 1) inside note));
    figures_are = p.figures_are ∙ sym (figures_of-note p.items (length whole) (number + 1));
    within = omega arith;
    plain = IsPlain-none;
    stands = (refl, none-left);
  }
  closes-made short (Goes (Some begun)) (first, due) = record {
    items = p.items;
    at = p.at;
    first = p.first;
    are = items-now;
    figures_are = p.figures_are;
    within = inside;
    plain = IsPlain-none;
    stands = (first, due);
  }
  closes-made short (Whole fig) drawn = record {
    items = p.items ++ Drawn fig (length whole) (number + 1) ∷ [];
    at = length whole;
    first = number + 1;
    are = AreItems-drawn whole 0 1 p.items p.at p.first fig (length whole) (number + 1) items-now (subst (λ (k : ℕ). IsAnswer whole p.at p.first (Ok (Drawn fig k (number + 1)))) ends-text (drawn-at whole p.at p.first fig (length text) (number + 1) inside drawn));
    figures_are = ap (λ (x : List Figure). x ++ fig ∷ []) p.figures_are ∙ sym (figures_of-drawn p.items fig (length whole) (number + 1));
    within = omega arith;
    plain = IsPlain-none;
    stands = (refl, none-left);
  }
  closes-made short (Bad Well) (none, fails) = absurd none
  closes-made short (Bad (BadLine k)) (here, fails) = (tt, ends-here (BadLine k) short (λ more total. (fails-here (fault.BadLine k) fails more, inr (not-plain more))))
  closes-made short (Bad (Limit k)) (here, fails) = (tt, ends-here (Limit k) short (λ more total. fails-here (fault.Limit k) fails more))
  closes-made short (Bad (EndInFigure k)) (none, fails) = absurd none
  closes-made short (Bad TooLong) (none, fails) = absurd none

  pub closes : length consumed < input_limit → (after : After) → Makes p.first number (drop p.at consumed ++ 10 ∷ []) after → Closes whole figures number after
  closes short after makes = closes-made short after (subst (λ (x : List ℕ). Makes p.first number x after) (sym (drop-more consumed (10 ∷ []) p.at p.within)) makes)

-- numbers of a line are within the range of coordinates
within-size : (n : ℕ) → IsWithin (pos 1048576) (pos (min 1048576 n))
within-size n = record { least = omega (arith, ints); most = omega (arith, ints) }

within-minus : (n : ℕ) → IsWithin (pos 1048576) (neg_ℤ (pos (min 1048576 n)))
within-minus n = record { least = omega (arith, ints); most = omega (arith, ints) }

within-signed : (negative : Bool) (n : ℕ) → IsWithin (pos 1048576) (signed_value (record { negative = negative; size = n }))
within-signed true n = within-minus n
within-signed false n = within-size n

within-word : (w : Word) → IsWithin (pos 1048576) (integer_of w)
within-word (Number z) = within-signed z.negative z.size
within-word (Closing z) = within-signed z.negative z.size
within-word (Named name) = within-size 0
within-word Other = within-size 0

-- so is a point more
in_range-more : (points : List Point) (words : List Word) → ((v : ℕ) → v < length points → IsInRange (point_at points v)) → (v : ℕ) → v < length (points ++ point_of words ∷ []) → IsInRange (point_at (points ++ point_of words ∷ []) v)
in_range-more points words all v in_list =
    let origin : Point = record { x = pos 0; y = pos 0 } in
    let here : IsInRange (point_of words) = record { x = within-word (word_at words 2); y = within-word (word_at words 3) } in
    below_more (λ (k : ℕ). IsInRange (point_at (points ++ point_of words ∷ []) k)) (length points)
    (λ k below. rw (get_or-append points (point_of words ∷ []) origin k below) (all k below))
    (rw (get_or-append_seam points (point_of words) [] origin) here) v (omega (arith, length-append points (point_of words ∷ [])))

one_more : {A B : Type 0} (xs : List A) (ys : List B) (x : A) (y : B) → length xs ≡ length ys → length (xs ++ x ∷ []) ≡ length (ys ++ y ∷ [])
one_more xs ys x y same = let l = length-append xs (x ∷ []) in let m = length-append ys (y ∷ []) in omega arith

-- one list more
pub lists-with_row : (kind : Kind) (draft : Draft) (words : List Word) → length (with_row kind draft words).lists ≡ length draft.lists + 1
lists-with_row (Grid job) draft words = length-append draft.lists (vertices_from 4 words ∷ [])
lists-with_row Bars draft words = length-append draft.lists (vertices_from 6 words ∷ [])
lists-with_row Rects draft words = length-append draft.lists (vertices_from 7 words ∷ [])
lists-with_row (Witness kind) draft words = length-append draft.lists (vertices_from 1 words ∷ [])

-- what a line more has given is drawn
pub AreDrawn-more : (head : Head) (draft : Draft) (words : List Word) → AreDrawn head draft → AreDrawn head (with_row (head_kind head) draft words)
AreDrawn-more (GridHead job) draft words drawn =
    let d = drawn.points job refl in
    record {
      points = λ job' same. record {
        count = one_more draft.points draft.lists (point_of words) (vertices_from 4 words) d.count;
        in_range = in_range-more draft.points words d.in_range;
      };
      bars = λ none. absurd (cc);
      rects = λ none. absurd (cc);
    }
AreDrawn-more BarsHead draft words drawn = grind (arith, one_more, integer_in, vertices_from)
AreDrawn-more RectsHead draft words drawn = grind (arith, one_more, integer_in, vertices_from)
AreDrawn-more (WitnessHead kind graph) draft words drawn = record { points = λ job none. absurd (cc); bars = λ none. absurd (cc); rects = λ none. absurd (cc) }
