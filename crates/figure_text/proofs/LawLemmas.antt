-- A printed figure stands where it was printed.
use Rattle.std.proofs.Common.{◌≡◌, ℕ, zero, suc, ◌+◌, ◌-◌, ◌<◌, ◌≤◌, ℤ, pos, List, [], ◌∷◌, ◌++◌, length, take, drop, get_or, refl, sym, ap, ap₂, ◌∙◌, subst, arith, append_assoc, length-append, length-drop, lit≤}
use Rattle.std.specs.Prelude.{codes, decimal, map, All, Option, Some, IsTrue, IsFalse}
use Rattle.std.proofs.lemmas.List.{drop-drop}
use Rattle.std.proofs.Math.Seq.{drop-append_seam, take-length}
use Rattle.std.proofs.lemmas.List.Elements.{All-nil, All-get_or, All-from_recursion}
use Rattle.std.proofs.lemmas.List.{length-map}
use Rattle.map_lists.specs.Lists.{Lists}
use Rattle.pg_plane.specs.declared.grid_points.Point.{Point}
use Rattle.pg_plane.specs.declared.figures.BarFigure.{BarFigure}
use Rattle.pg_plane.specs.declared.figures.RectFigure.{RectFigure}
use Rattle.figure_text.specs.declared.figure.GridJob.{GridJob}
use Rattle.figure_text.specs.declared.figure.GridJob.TheVariants.{Shift as ByShift, Schnyder as BySchnyder, Convex as ByConvex}
use Rattle.figure_text.specs.declared.figure.Figure.{Figure as Drawing}
use Rattle.figure_text.specs.declared.figure.Figure.TheVariants.{Grid as GridFigure, Bars as BarsFigure, Rects as RectsFigure, Witness as WitnessFigure}
use Rattle.figure_text.specs.declared.line_words.Word.{Word}
use Rattle.figure_text.specs.declared.line_words.Word.TheVariants.{Number, Named}
use Rattle.figure_text.specs.declared.line_words.Name.TheVariants.{Figure}
use Rattle.figure_text.specs.declared.line_words.Name.TheVariants as name
use Rattle.figure_text.specs.declared.line_shapes.Kind.{Kind}
use Rattle.figure_text.specs.declared.line_shapes.Kind.TheVariants.{Grid, Bars, Rects, Witness}
use Rattle.figure_text.specs.declared.figure_ends.Item.TheVariants.{Drawn}
use Rattle.figure_text.specs.Words.{word_of, words_of, word_at}
use Rattle.graphs.specs.Graphs.{EdgeGraph}
use Rattle.graph6_text.specs.Lines.{IsLine as IsGraphLine}
use Rattle.graph6_text.proofs.LineLemmas.{lines_are_graphs}
use Rattle.kuratowski.specs.declared.witness.Witness.{Witness as AWitness}
use Rattle.kuratowski.specs.Witnesses.{pairs_of}
use Rattle.figure_text.specs.Front.{IsGraphOf}
use Rattle.figure_text.specs.Lines.{size, is_natural, kind_by, kind_of, rows_due, IsTail, TailInRange}
use Rattle.figure_text.specs.Reading.{IsPlain, is_note, Rows, point_of, vertices_from, of_lines}
use Rattle.figure_text.specs.Drafts.{integer_in}
use Rattle.figure_text.specs.Pieces.{pieces, front_length, grid_front, bar_front, rect_front, row_front}
use Rattle.figure_text.specs.Text.{texts, joined, front_words, first_line, job_word, vertex_line, vertex_lines, grid_numbers, bar_numbers, rect_numbers, columns_line, HasBars, HasRects, HasPaths, point_at, integer_at, vertex_numbers, witness_lists, witness_lines}
use Rattle.figure_text.specs.Figures.{IsHead, IsBody, StandsAt, lines_due}
use Rattle.figure_text.specs.Laws.{sign_of, IsCoordinate, AreLists, AreNumbered, PrintedIsRead}
use Rattle.figure_text.proofs.NumeralLemmas.{Dark, decimal-dark, word_of-decimal}
use Rattle.figure_text.proofs.UptoLemmas.{lines_upto, length-lines_upto, closed-lines_upto, Rows-lines_upto, of_lines-upto}
use Rattle.figure_text.proofs.RoundLemmas.{neighbour_words, read_words, joined-words, joined-plain, line_text, vertex_line-text, IsFilled, AreLong, vertex-plain, vertex-words, vertex-good, vertex-list, value-again, name-dark}
use Rattle.figure_text.proofs.WitnessLemmas.{witness_head, witness_first_line-text, graph-dark, witness-plain, witness-parts, witness-part, witness-tail, witness-graph, kind-again, witness-lists, witness-long, witness-same}
use Rattle.figure_text.proofs.ColumnLemmas.{columns_text, columns_line-text, columns-plain, columns-shape, columns-range, columns-again}

-- the first line of a figure, without the byte that closes it
abbrev first_words : ℕ → List ℕ → ℕ → List (List ℕ)
first_words k word n = codes "figure" ∷ decimal k ∷ word ∷ decimal n ∷ []

abbrev first_text : ℕ → List ℕ → ℕ → List ℕ
first_text k word n = joined (first_words k word n)

first_line-text : (k : ℕ) (word : List ℕ) (n : ℕ) → first_line k word n ≡ first_text k word n ++ 10 ∷ []
unfolding first_line
first_line-text k word n = simp append_assoc

-- the numbers of a first line are within their ranges
record IsFirst (k n : ℕ) : Type 0 where
  number_least : 1 ≤ k
  number_most : k ≤ 16777216
  least : 1 ≤ n
  most : n ≤ 4095

first-dark : (k : ℕ) (word : List ℕ) (n : ℕ) → IsFirst k n → Dark word → All Dark (first_words k word n)
first-dark k word n fine dark =
    All-from_recursion Dark (first_words k word n) (name-dark name.Figure, (decimal-dark k (omega (arith, fine.number_most)), (dark, (decimal-dark n (omega (arith, fine.most)), tt))))

first-words : (k : ℕ) (word : List ℕ) (n : ℕ) → IsFirst k n → Dark word → words_of (first_text k word n) ≡ Named Figure ∷ Number (sign_of (pos k)) ∷ word_of word ∷ Number (sign_of (pos n)) ∷ []
first-words k word n fine dark =
    joined-words (first_words k word n) (lit≤ tt) (first-dark k word n fine dark)
    ∙ ap₂ (λ (v : Word) (w : Word). Named Figure ∷ v ∷ word_of word ∷ w ∷ []) (word_of-decimal k (omega (arith, fine.number_most))) (word_of-decimal n (omega (arith, fine.most)))

first-plain : (k : ℕ) (word : List ℕ) (n : ℕ) → IsFirst k n → Dark word → IsPlain (first_text k word n)
first-plain k word n fine dark = joined-plain (first_words k word n) (first-dark k word n fine dark)

-- a first line by its words and what stands behind the word of its job
pub IsHead-by : (kind : Kind) (n k : ℕ) (line : List ℕ) → 1 ≤ k → k ≤ 16777216 → word_at (words_of line) 0 ≡ Named Figure → word_at (words_of line) 1 ≡ Number (sign_of (pos k)) → kind_of (words_of line) ≡ Some kind → IsTail (Some kind) line → TailInRange (Some kind) line → rows_due kind (words_of line) ≡ n → IsHead kind n line
IsHead-by kind n k line least most figure number is tail range rows = grind (arith, line, Option, Kind, IsTail, TailInRange)

-- a kind of which the first line gives the number of vertices
record IsCounted (kind : Kind) : Type 0 where
  tail : (line : List ℕ) → length (words_of line) ≡ 4 → IsTrue (is_natural (word_at (words_of line) 3)) → IsTail (Some kind) line
  range : (line : List ℕ) → 1 ≤ size (word_at (words_of line) 3) → size (word_at (words_of line) 3) ≤ 4095 → TailInRange (Some kind) line
  rows : (words : List Word) → rows_due kind words ≡ size (word_at words 3)

grid-counted : (job : GridJob) → IsCounted (Grid job)
grid-counted job = record { tail = λ line four natural. (four, natural); range = λ line least most. (least, most); rows = λ words. refl }

bars-counted : IsCounted Bars
bars-counted = record { tail = λ line four natural. (four, natural); range = λ line least most. (least, most); rows = λ words. refl }

rects-counted : IsCounted Rects
rects-counted = record { tail = λ line four natural. (four, natural); range = λ line least most. (least, most); rows = λ words. refl }

first-head : (kind : Kind) (k : ℕ) (word : List ℕ) (n : ℕ) → IsFirst k n → Dark word → IsCounted kind → ((next : Word) → kind_by (word_of word) next ≡ Some kind) → IsHead kind n (first_text k word n)
first-head kind k word n fine dark counted is =
    let words = first-words k word n fine dark in
    let last : word_at (words_of (first_text k word n)) 3 ≡ Number (sign_of (pos n)) = ap (λ (ws : List Word). word_at ws 3) words in
    IsHead-by kind n k (first_text k word n) fine.number_least fine.number_most (ap (λ (ws : List Word). word_at ws 0) words) (ap (λ (ws : List Word). word_at ws 1) words)
    (ap kind_of words ∙ is (Number (sign_of (pos n))))
    (counted.tail (first_text k word n) (ap length words) (rw last refl))
    (counted.range (first_text k word n) (rw last fine.least) (rw last fine.most))
    (counted.rows (words_of (first_text k word n)) ∙ ap size last)

-- a first line, and lines behind it that give the figure
pub stands : (kind : Kind) (n : ℕ) (fig : Drawing) (head body : List ℕ) → IsPlain head → IsFalse (is_note head) → IsHead kind n head → (bytes : List ℕ) (at : ℕ) (rest : List ℕ) (line after : ℕ) → at ≤ length bytes → drop at bytes ≡ ((head ++ 10 ∷ []) ++ body) ++ rest → after ≡ line + 1 + lines_due kind n → IsBody kind n head (body ++ rest) rest fig → StandsAt bytes at line (Drawn fig (at + length ((head ++ 10 ∷ []) ++ body)) after)
stands kind n fig head body plain other is bytes at rest line after within here counted gives =
    let text = (head ++ 10 ∷ []) ++ body in
    let behind : drop (at + length text) bytes ≡ rest =
    sym (drop-drop (length text) at bytes) ∙ ap (λ (x : List ℕ). drop (length text) x) here ∙ drop-append_seam text rest in
    let long : length bytes - at ≡ length text + length rest = sym (length-drop at bytes) ∙ ap length here ∙ length-append text rest in
    let parts : drop at bytes ≡ head ++ 10 ∷ (body ++ rest) =
    here ∙ append_assoc (head ++ 10 ∷ []) body rest ∙ append_assoc head (10 ∷ []) (body ++ rest) in (
      kind,
      n,
      body ++ rest,
      record { line = head; is = record { parts = parts; plain = plain }; other = other; head = is },
      (subst (λ (x : List ℕ). IsBody kind n head (body ++ rest) x fig) (sym behind) gives, omega arith, counted),
    )

-- the same where the first line gives the number of vertices
stands-counted : (kind : Kind) (k : ℕ) (word : List ℕ) (n : ℕ) (fig : Drawing) (body : List ℕ) → IsFirst k n → Dark word → IsCounted kind → ((next : Word) → kind_by (word_of word) next ≡ Some kind) → (bytes : List ℕ) (at : ℕ) (rest : List ℕ) (line after : ℕ) → at ≤ length bytes → (text : List ℕ) → text ≡ first_line k word n ++ body → drop at bytes ≡ text ++ rest → after ≡ line + 1 + lines_due kind n → IsBody kind n (first_text k word n) (body ++ rest) rest fig → StandsAt bytes at line (Drawn fig (at + length text) after)
stands-counted kind k word n fig body fine dark counts is bytes at rest line after within text of here counted gives =
    let same : text ≡ (first_text k word n ++ 10 ∷ []) ++ body = of ∙ ap (λ (x : List ℕ). x ++ body) (first_line-text k word n) in
    subst (λ (x : List ℕ). StandsAt bytes at line (Drawn fig (at + length x) after)) (sym same)
    (stands kind n fig (first_text k word n) body (first-plain k word n fine dark) refl (first-head kind k word n fine dark counts is) bytes at rest line after within
    (here ∙ ap (λ (x : List ℕ). x ++ rest) same) counted gives)

-- texts that are the same one by one
texts-same : (f g : ℕ → List ℕ) → ((v : ℕ) → f v ≡ g v) → (n : ℕ) → texts f n ≡ texts g n
texts-same f g same zero = refl
texts-same f g same (suc n) = ap₂ (λ (x : List ℕ) (y : List ℕ). x ++ y) (texts-same f g same n) (same n)

-- the lines of vertices, with their numbers in range
module _ (kind : Kind) (numbers : ℕ → List ℤ) (lists : Lists) (are : AreLists lists) (long : AreLong kind numbers lists) (fine : (v : ℕ) → v < length lists → All IsCoordinate (numbers v)) (some : (v : ℕ) → 0 < length (front_words (pieces kind) v (numbers v))) (filled : (v : ℕ) → IsFilled (pieces kind) (numbers v)) where
  abbrev line : ℕ → List ℕ
  line v = line_text (pieces kind) v (numbers v) (get_or lists v [])

  abbrev lines : List (List ℕ)
  lines = lines_upto line (length lists)

  small : (v : ℕ) → v < length lists → All (λ u. u < 65535) (get_or lists v [])
  small v within = All-get_or (λ us. All (λ u. u < 65535) us) lists v [] within are.neighbours

  words : (v : ℕ) → v < length lists → words_of (line v) ≡ read_words (pieces kind) v (numbers v) ++ neighbour_words (get_or lists v [])
  words v h = vertex-words kind v (numbers v) (get_or lists v []) (omega (arith, are.most, h)) (fine v h) (small v h) (some v) (filled v)

  vertex-rows : (rest : List ℕ) → Rows kind (vertex_lines (pieces kind) numbers lists (length lists) ++ rest) lines rest
  unfolding vertex_lines
  vertex-rows rest =
      subst (λ (x : List ℕ). Rows kind (x ++ rest) lines rest)
      (closed-lines_upto line (length lists) ∙ texts-same (λ v. line v ++ 10 ∷ []) (λ v. vertex_line (pieces kind) v (numbers v) (get_or lists v [])) (λ v. sym (vertex_line-text (pieces kind) v (numbers v) (get_or lists v []))) (length lists))
      (Rows-lines_upto kind line (length lists) rest
      (λ v h. vertex-plain kind v (numbers v) (get_or lists v []) (omega (arith, are.most, h)) (fine v h) (small v h) (some v) (filled v))
      (λ v h. vertex-good kind v (numbers v) (get_or lists v []) (omega (arith, are.most, h)) (fine v h) (small v h) (some v) (filled v) (long v h)))

  lists-again : of_lines (vertices_from (front_length kind)) lines ≡ lists
  lists-again =
      of_lines-upto (vertices_from (front_length kind)) line lists [] (length lists) (omega arith) (λ v h. vertex-list kind v (numbers v) (get_or lists v []) (omega (arith, are.most, h)) (fine v h) (small v h) (some v) (filled v)) ∙ take-length lists

  numbers-again : {A : Type 0} (value : List Word → A) (xs : List A) (d : A) → length xs ≡ length lists → ((v : ℕ) → v < length lists → value (read_words (pieces kind) v (numbers v) ++ neighbour_words (get_or lists v [])) ≡ get_or xs v d) → of_lines value lines ≡ xs
  numbers-again value xs d whole each =
      of_lines-upto value line xs d (length lists) (omega (arith, whole)) (λ v h. ap value (words v (omega (arith, whole, h))) ∙ each v (omega (arith, whole, h))) ∙ ap (λ (k : ℕ). take k xs) (sym whole) ∙ take-length xs

-- an entry of numbers in range
entry : (zs : List ℤ) (v n : ℕ) → length zs ≡ n → v < n → All IsCoordinate zs → IsCoordinate (integer_at zs v)
entry zs v n whole h all = All-get_or IsCoordinate zs v (pos 0) (omega (arith, whole, h)) all

-- a straight-line drawing
grid-body : (job : GridJob) (lists : Lists) (points : List Point) (rest : List ℕ) → length points ≡ length lists → AreLists lists → All (λ p. IsCoordinate p.x × IsCoordinate p.y) points → (head : List ℕ) → IsBody (Grid job) (length lists) head (vertex_lines grid_front (grid_numbers points) lists (length lists) ++ rest) rest (GridFigure job lists points)
grid-body job lists points rest whole are inside head =
    let at : (v : ℕ) → v < length lists → IsCoordinate (point_at points v).x × IsCoordinate (point_at points v).y =
    λ v h. All-get_or (λ p. IsCoordinate p.x × IsCoordinate p.y) points v (record { x = pos 0; y = pos 0 }) (omega arith) inside in
    let fine : (v : ℕ) → v < length lists → All IsCoordinate (grid_numbers points v) = λ v h. All-from_recursion IsCoordinate (grid_numbers points v) ((at v h).0, ((at v h).1, tt)) in
    let some : (v : ℕ) → 0 < length (front_words grid_front v (grid_numbers points v)) = λ v. lit≤ tt in
    let long : AreLong (Grid job) (grid_numbers points) lists = λ v h. refl in (
      lines (Grid job) (grid_numbers points) lists are long fine some (λ v. tt),
      vertex-rows (Grid job) (grid_numbers points) lists are long fine some (λ v. tt) rest,
      length-lines_upto (line (Grid job) (grid_numbers points) lists are long fine some (λ v. tt)) (length lists),
      ap₂ (λ (ls : Lists) (ps : List Point). GridFigure job ls ps)
          (sym (lists-again (Grid job) (grid_numbers points) lists are long fine some (λ v. tt)))
          (sym (numbers-again (Grid job) (grid_numbers points) lists are long fine some (λ v. tt) point_of points (record { x = pos 0; y = pos 0 }) whole
          (λ v h. ap₂ (λ (x : ℤ) (y : ℤ). point x y) (value-again (point_at points v).x (at v h).0) (value-again (point_at points v).y (at v h).1)))),
    )
  where
    point : ℤ → ℤ → Point
    point x y = record { x = x; y = y }

-- a visibility drawing
figure-same : {lists lists' : Lists} {y y' x1 x1' x2 x2' column column' : List ℤ} → lists' ≡ lists → y' ≡ y → x1' ≡ x1 → x2' ≡ x2 → column' ≡ column → BarsFigure lists (record { y = y; x1 = x1; x2 = x2; column = column }) ≡ BarsFigure lists' (record { y = y'; x1 = x1'; x2 = x2'; column = column' })
figure-same is is_y is_a is_b is_c = cc

bars-body : (lists : Lists) (bars : BarFigure) (rest : List ℕ) → HasBars lists bars → AreLists lists → All IsCoordinate bars.y → All IsCoordinate bars.x1 → All IsCoordinate bars.x2 → All IsCoordinate bars.column → (head : List ℕ) → IsBody Bars (length lists) head ((vertex_lines bar_front (bar_numbers bars) lists (length lists) ++ columns_line bars.column) ++ rest) rest (BarsFigure lists bars)
bars-body lists bars rest whole are in_y in_a in_b in_column head =
    let y : (v : ℕ) → v < length lists → IsCoordinate (integer_at bars.y v) = λ v h. entry bars.y v (length lists) whole.y h in_y in
    let a : (v : ℕ) → v < length lists → IsCoordinate (integer_at bars.x1 v) = λ v h. entry bars.x1 v (length lists) whole.x1 h in_a in
    let b : (v : ℕ) → v < length lists → IsCoordinate (integer_at bars.x2 v) = λ v h. entry bars.x2 v (length lists) whole.x2 h in_b in
    let fine : (v : ℕ) → v < length lists → All IsCoordinate (bar_numbers bars v) = λ v h. All-from_recursion IsCoordinate (bar_numbers bars v) (y v h, (a v h, (b v h, tt))) in
    let some : (v : ℕ) → 0 < length (front_words bar_front v (bar_numbers bars v)) = λ v. lit≤ tt in
    let long : AreLong Bars (bar_numbers bars) lists = λ v h. refl in
    let text : List ℕ = vertex_lines bar_front (bar_numbers bars) lists (length lists) in
    let parts : text ++ (columns_text bars.column ++ 10 ∷ rest) ≡ (text ++ columns_line bars.column) ++ rest =
    sym (ap (λ (x : List ℕ). (text ++ x) ++ rest) (columns_line-text bars.column)
    ∙ append_assoc text (columns_text bars.column ++ 10 ∷ []) rest
    ∙ ap (λ (x : List ℕ). text ++ x) (append_assoc (columns_text bars.column) (10 ∷ []) rest)) in (
      lines Bars (bar_numbers bars) lists are long fine some (λ v. tt),
      columns_text bars.column,
      subst (λ (x : List ℕ). Rows Bars x (lines Bars (bar_numbers bars) lists are long fine some (λ v. tt)) (columns_text bars.column ++ 10 ∷ rest)) parts
          (vertex-rows Bars (bar_numbers bars) lists are long fine some (λ v. tt) (columns_text bars.column ++ 10 ∷ rest)),
      length-lines_upto (line Bars (bar_numbers bars) lists are long fine some (λ v. tt)) (length lists),
      columns-plain bars.column in_column,
      columns-shape bars.column in_column,
      columns-range bars.column in_column,
      figure-same
          (lists-again Bars (bar_numbers bars) lists are long fine some (λ v. tt))
          (numbers-again Bars (bar_numbers bars) lists are long fine some (λ v. tt) (integer_in 2) bars.y (pos 0) whole.y (λ v h. value-again (integer_at bars.y v) (y v h)))
          (numbers-again Bars (bar_numbers bars) lists are long fine some (λ v. tt) (integer_in 4) bars.x1 (pos 0) whole.x1 (λ v h. value-again (integer_at bars.x1 v) (a v h)))
          (numbers-again Bars (bar_numbers bars) lists are long fine some (λ v. tt) (integer_in 5) bars.x2 (pos 0) whole.x2 (λ v h. value-again (integer_at bars.x2 v) (b v h)))
          (columns-again bars.column in_column),
    )

-- a rectangular dual
rects-same : {lists lists' : Lists} {a a' b b' c c' d d' : List ℤ} → lists' ≡ lists → a' ≡ a → b' ≡ b → c' ≡ c → d' ≡ d → RectsFigure lists (record { x1 = a; x2 = b; y1 = c; y2 = d }) ≡ RectsFigure lists' (record { x1 = a'; x2 = b'; y1 = c'; y2 = d' })
rects-same is is_a is_b is_c is_d = cc

rects-body : (lists : Lists) (rects : RectFigure) (rest : List ℕ) → HasRects lists rects → AreLists lists → All IsCoordinate rects.x1 → All IsCoordinate rects.x2 → All IsCoordinate rects.y1 → All IsCoordinate rects.y2 → (head : List ℕ) → IsBody Rects (length lists) head (vertex_lines rect_front (rect_numbers rects) lists (length lists) ++ rest) rest (RectsFigure lists rects)
rects-body lists rects rest whole are in_a in_b in_c in_d head =
    let a : (v : ℕ) → v < length lists → IsCoordinate (integer_at rects.x1 v) = λ v h. entry rects.x1 v (length lists) whole.x1 h in_a in
    let b : (v : ℕ) → v < length lists → IsCoordinate (integer_at rects.x2 v) = λ v h. entry rects.x2 v (length lists) whole.x2 h in_b in
    let c : (v : ℕ) → v < length lists → IsCoordinate (integer_at rects.y1 v) = λ v h. entry rects.y1 v (length lists) whole.y1 h in_c in
    let d : (v : ℕ) → v < length lists → IsCoordinate (integer_at rects.y2 v) = λ v h. entry rects.y2 v (length lists) whole.y2 h in_d in
    let fine : (v : ℕ) → v < length lists → All IsCoordinate (rect_numbers rects v) = λ v h. All-from_recursion IsCoordinate (rect_numbers rects v) (a v h, (b v h, (c v h, (d v h, tt)))) in
    let some : (v : ℕ) → 0 < length (front_words rect_front v (rect_numbers rects v)) = λ v. lit≤ tt in
    let long : AreLong Rects (rect_numbers rects) lists = λ v h. refl in (
      lines Rects (rect_numbers rects) lists are long fine some (λ v. tt),
      vertex-rows Rects (rect_numbers rects) lists are long fine some (λ v. tt) rest,
      length-lines_upto (line Rects (rect_numbers rects) lists are long fine some (λ v. tt)) (length lists),
      rects-same
          (lists-again Rects (rect_numbers rects) lists are long fine some (λ v. tt))
          (numbers-again Rects (rect_numbers rects) lists are long fine some (λ v. tt) (integer_in 2) rects.x1 (pos 0) whole.x1 (λ v h. value-again (integer_at rects.x1 v) (a v h)))
          (numbers-again Rects (rect_numbers rects) lists are long fine some (λ v. tt) (integer_in 3) rects.x2 (pos 0) whole.x2 (λ v h. value-again (integer_at rects.x2 v) (b v h)))
          (numbers-again Rects (rect_numbers rects) lists are long fine some (λ v. tt) (integer_in 5) rects.y1 (pos 0) whole.y1 (λ v h. value-again (integer_at rects.y1 v) (c v h)))
          (numbers-again Rects (rect_numbers rects) lists are long fine some (λ v. tt) (integer_in 6) rects.y2 (pos 0) whole.y2 (λ v h. value-again (integer_at rects.y2 v) (d v h))),
    )

-- a witness
witness-body : (graph : EdgeGraph) (witness : AWitness) (rest head : List ℕ) → HasPaths witness → AreNumbered witness.branch → All AreNumbered witness.paths → IsGraphOf head graph → IsBody (Witness witness.kind) (length (pairs_of witness.kind) + 1) head (witness_lines witness (length witness.paths + 1) ++ rest) rest (WitnessFigure graph witness)
witness-body graph witness rest head whole small all of =
    let kind = Witness witness.kind in
    let lists = witness_lists witness in
    let none : ℕ → List ℤ = λ v. [] in
    let are = witness-lists witness whole small all in
    let long = witness-long witness whole in
    let fine : (v : ℕ) → v < length lists → All IsCoordinate [] = λ v h. All-nil IsCoordinate in
    let some : (v : ℕ) → 0 < length (front_words row_front v []) = λ v. lit≤ tt in
    let count : length lists ≡ length witness.paths + 1 = omega (arith, length-map witness.paths vertex_numbers) in (
      graph,
      lines kind none lists are long fine some (λ v. tt),
      of,
      subst (λ (n : ℕ). Rows kind (witness_lines witness n ++ rest) (lines kind none lists are long fine some (λ v. tt)) rest) count (vertex-rows kind none lists are long fine some (λ v. tt) rest),
      length-lines_upto (line kind none lists are long fine some (λ v. tt)) (length lists) ∙ omega (arith, count, whole.paths),
      witness-same graph witness (of_lines (vertices_from 1) (lines kind none lists are long fine some (λ v. tt))) (lists-again kind none lists are long fine some (λ v. tt)),
    )

job-dark : (job : GridJob) → Dark (job_word job)
job-dark ByShift = name-dark name.Shift
job-dark BySchnyder = name-dark name.Schnyder
job-dark ByConvex = name-dark name.Convex

job-kind : (job : GridJob) (next : Word) → kind_by (word_of (job_word job)) next ≡ Some (Grid job)
job-kind ByShift next = refl
job-kind BySchnyder next = refl
job-kind ByConvex next = refl

pub printed-read : PrintedIsRead
printed-read k (GridFigure job lists points) text least most whole (are, inside) is bytes at rest within here line =
    stands-counted (Grid job) k (job_word job) (length lists) (GridFigure job lists points) (vertex_lines grid_front (grid_numbers points) lists (length lists))
    (record { number_least = least; number_most = most; least = are.some; most = are.most }) (job-dark job) (grid-counted job) (job-kind job) bytes at rest line (line + (length lists + 1)) within text is here (omega arith)
    (grid-body job lists points rest whole are inside (first_text k (job_word job) (length lists)))
printed-read k (BarsFigure lists bars) text least most whole (are, in_y, in_a, in_b, in_column) is bytes at rest within here line =
    stands-counted Bars k (codes "bars") (length lists) (BarsFigure lists bars) (vertex_lines bar_front (bar_numbers bars) lists (length lists) ++ columns_line bars.column)
    (record { number_least = least; number_most = most; least = are.some; most = are.most }) (name-dark name.Bars) bars-counted (λ next. refl) bytes at rest line (line + (length lists + 2)) within text is here (omega arith)
    (bars-body lists bars rest whole are in_y in_a in_b in_column (first_text k (codes "bars") (length lists)))
printed-read k (RectsFigure lists rects) text least most whole (are, in_a, in_b, in_c, in_d) is bytes at rest within here line =
    stands-counted Rects k (codes "rect") (length lists) (RectsFigure lists rects) (vertex_lines rect_front (rect_numbers rects) lists (length lists))
    (record { number_least = least; number_most = most; least = are.some; most = are.most }) (name-dark name.Rect) rects-counted (λ next. refl) bytes at rest line (line + (length lists + 1)) within text is here (omega arith)
    (rects-body lists rects rest whole are in_a in_b in_c in_d (first_text k (codes "rect") (length lists)))
printed-read k (WitnessFigure graph witness) text least most whole (branches, paths) (row, is_row, is) bytes at rest within here line =
    let same : text ≡ (witness_head k witness.kind row ++ 10 ∷ []) ++ witness_lines witness (length witness.paths + 1) = is ∙ ap (λ (x : List ℕ). x ++ witness_lines witness (length witness.paths + 1)) (witness_first_line-text k witness.kind row) in
    let dark = graph-dark row graph is_row in
    subst (λ (x : List ℕ). StandsAt bytes at line (Drawn (WitnessFigure graph witness) (at + length x) (line + (length witness.paths + 2)))) (sym same)
    (stands (Witness witness.kind) (length (pairs_of witness.kind) + 1) (WitnessFigure graph witness) (witness_head k witness.kind row) (witness_lines witness (length witness.paths + 1))
    (witness-plain k witness.kind row most dark) refl
    (IsHead-by (Witness witness.kind) (length (pairs_of witness.kind) + 1) k (witness_head k witness.kind row) least most
    (ap (λ (ws : List (List ℕ)). word_at (map word_of ws) 0) (witness-parts k witness.kind row most dark))
    (ap (λ (ws : List (List ℕ)). word_at (map word_of ws) 1) (witness-parts k witness.kind row most dark) ∙ word_of-decimal k (omega arith))
    (ap (λ (ws : List (List ℕ)). kind_of (map word_of ws)) (witness-parts k witness.kind row most dark) ∙ kind-again witness.kind (codes "figure") (decimal k) (row ∷ []))
    (witness-tail k witness.kind row most dark (lines_are_graphs row graph is_row).1)
    (witness-graph k witness.kind row most dark (lines_are_graphs row graph is_row).1)
    refl)
    bytes at rest line (line + (length witness.paths + 2)) within (here ∙ ap (λ (x : List ℕ). x ++ rest) same) (omega (arith, whole.paths))
    (witness-body graph witness rest (witness_head k witness.kind row) whole branches paths
    (subst (λ (x : List ℕ). IsGraphLine x graph) (sym (witness-part k witness.kind row most dark)) is_row)))
