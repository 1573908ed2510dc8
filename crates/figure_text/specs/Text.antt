-- The text of figures: lines of words and numbers, each closed by byte 10.
use Rattle.std.specs.Prelude.{ℕ, zero, suc, ℤ, pos, ◌+◌, ◌*◌, ◌<◌, ◌≡◌, All, List, [], ◌∷◌, ◌++◌, length, map, flat_map, slice_index_or, codes, decimal}
use Rattle.std.specs.Fmt.{signed_decimal}
use Rattle.map_lists.specs.Lists.{Lists}
use Rattle.map_lists.specs.declared.ids.VertexId.{VertexId}
use Rattle.graph6_text.specs.Lines.{IsLine as IsGraphLine}
use Rattle.kuratowski.specs.declared.witness.Kind.{Kind as Subdivided}
use Rattle.kuratowski.specs.declared.witness.Kind.TheVariants.{K5, K33}
use Rattle.kuratowski.specs.declared.witness.Witness.{Witness}
use Rattle.kuratowski.specs.Witnesses.{branch_count, pairs_of}
use Rattle.pg_plane.specs.declared.grid_points.Point.{Point}
use Rattle.pg_plane.specs.declared.figures.BarFigure.{BarFigure}
use Rattle.pg_plane.specs.declared.figures.RectFigure.{RectFigure}
use Rattle.figure_text.specs.declared.front_pieces.Piece.{Piece}
use Rattle.figure_text.specs.declared.front_pieces.Piece.TheVariants.{Place, Literal, Row, Value, Last}
use Rattle.figure_text.specs.declared.line_words.Name.{Name}
use Rattle.figure_text.specs.declared.line_words.Name.TheVariants as name
use Rattle.figure_text.specs.Lines.{row_name}
use Rattle.figure_text.specs.Pieces.{grid_front, bar_front, rect_front, row_front}
use Rattle.figure_text.specs.declared.figure.GridJob.{GridJob}
use Rattle.figure_text.specs.declared.figure.GridJob.TheVariants.{Shift, Schnyder, Convex}
use Rattle.figure_text.specs.declared.figure.Figure.{Figure}
use Rattle.figure_text.specs.declared.figure.Figure.TheVariants.{Grid, Bars, Rects, Witness as WitnessFigure}

-- signed numbers, each after a space
abbrev pub spaced_signed : List ℤ → List ℕ
spaced_signed zs = flat_map (λ z. 32 ∷ signed_decimal z) zs

-- words, with a space between each two
abbrev pub joined : List (List ℕ) → List ℕ
joined [] = []
joined (word ∷ words) = word ++ flat_map (λ w. 32 ∷ w) words

-- the text of a word of figures
abbrev pub name_text : Name → List ℕ
name_text name.Figure = codes "figure"
name_text name.Shift = codes "shift"
name_text name.Schnyder = codes "schnyder"
name_text name.Convex = codes "convex"
name_text name.Bars = codes "bars"
name_text name.Rect = codes "rect"
name_text name.At = codes "at"
name_text name.Y = codes "y"
name_text name.X = codes "x"
name_text name.Columns = codes "columns"
name_text name.Witness = codes "witness"
name_text name.K5 = codes "K5"
name_text name.K33 = codes "K33"
name_text name.Branch = codes "branch"
name_text name.Path = codes "path"

-- the words before the neighbours of vertex v, which is numbered from 0 and has these numbers
abbrev pub front_words : List Piece → ℕ → List ℤ → List (List ℕ)
front_words [] v zs = []
front_words (Place ∷ pieces) v zs = decimal (v + 1) ∷ front_words pieces v zs
front_words (Literal name ∷ pieces) v zs = name_text name ∷ front_words pieces v zs
front_words (Row ∷ pieces) v zs = name_text (row_name (v + 1)) ∷ front_words pieces v zs
front_words (Value ∷ pieces) v [] = []
front_words (Value ∷ pieces) v (z ∷ zs) = signed_decimal z ∷ front_words pieces v zs
front_words (Last ∷ pieces) v [] = []
front_words (Last ∷ pieces) v (z ∷ zs) = (signed_decimal z ++ 58 ∷ []) ∷ front_words pieces v zs

-- number v of a list of points, and of a list of whole numbers
abbrev pub point_at : List Point → ℕ → Point
point_at points v = slice_index_or points v (record { x = pos 0; y = pos 0 })

abbrev pub integer_at : List ℤ → ℕ → ℤ
integer_at zs v = slice_index_or zs v (pos 0)

-- the texts of 0 to n - 1, one after another
abbrev pub texts : (ℕ → List ℕ) → ℕ → List ℕ
texts text zero = []
texts text (suc n) = texts text n ++ text n

-- the word of the method of a straight-line drawing
abbrev pub job_word : GridJob → List ℕ
job_word Shift = codes "shift"
job_word Schnyder = codes "schnyder"
job_word Convex = codes "convex"

-- the first line of figure k, by the word of its job and its number of vertices
unfoldable pub first_line : ℕ → List ℕ → ℕ → List ℕ
first_line k word n = codes "figure" ++ 32 ∷ decimal k ++ 32 ∷ word ++ 32 ∷ decimal n ++ 10 ∷ []

-- the line of vertex v, with its numbers and its neighbours, which are printed from 1
unfoldable pub vertex_line : List Piece → ℕ → List ℤ → List ℕ → List ℕ
vertex_line pieces v zs us = joined (front_words pieces v zs ++ map (λ u. decimal (u + 1)) us) ++ 10 ∷ []

-- the line of the columns of the edges
unfoldable pub columns_line : List ℤ → List ℕ
columns_line columns = codes "columns" ++ spaced_signed columns ++ 10 ∷ []

-- the lines of the first n vertices, with the numbers and the neighbours of each
unfoldable pub vertex_lines : List Piece → (ℕ → List ℤ) → Lists → ℕ → List ℕ
vertex_lines pieces numbers lists n = texts (λ v. vertex_line pieces v (numbers v) (slice_index_or lists v [])) n

-- the numbers of vertex v: of its point, of its bar with its height first, and of its rectangle from left to right and up
abbrev pub grid_numbers : List Point → ℕ → List ℤ
grid_numbers points v = (point_at points v).x ∷ (point_at points v).y ∷ []

abbrev pub bar_numbers : BarFigure → ℕ → List ℤ
bar_numbers bars v = integer_at bars.y v ∷ integer_at bars.x1 v ∷ integer_at bars.x2 v ∷ []

abbrev pub rect_numbers : RectFigure → ℕ → List ℤ
rect_numbers rects v = integer_at rects.x1 v ∷ integer_at rects.x2 v ∷ integer_at rects.y1 v ∷ integer_at rects.y2 v ∷ []

-- the text of a straight-line drawing with the number k
abbrev pub grid_text : ℕ → GridJob → Lists → List Point → List ℕ
grid_text k job lists points = first_line k (job_word job) (length lists) ++ vertex_lines grid_front (grid_numbers points) lists (length lists)

-- the text of a visibility drawing with the number k
abbrev pub bars_text : ℕ → Lists → BarFigure → List ℕ
bars_text k lists bars =
    first_line k (codes "bars") (length lists) ++ (vertex_lines bar_front (bar_numbers bars) lists (length lists) ++ columns_line bars.column)

-- the text of a rectangular dual with the number k
abbrev pub rects_text : ℕ → Lists → RectFigure → List ℕ
rects_text k lists rects = first_line k (codes "rect") (length lists) ++ vertex_lines rect_front (rect_numbers rects) lists (length lists)

-- the word of the graph that a witness subdivides
abbrev pub kind_word : Subdivided → List ℕ
kind_word K5 = codes "K5"
kind_word K33 = codes "K33"

-- the first line of the witness with the number k, by the line of its graph
unfoldable pub witness_first_line : ℕ → Subdivided → List ℕ → List ℕ
witness_first_line k kind line = codes "figure" ++ 32 ∷ decimal k ++ codes " witness" ++ 32 ∷ kind_word kind ++ 32 ∷ line ++ 10 ∷ []

-- the vertices of the branches by their numbers, and then those of each path
abbrev pub vertex_numbers : List VertexId → List ℕ
vertex_numbers us = map (λ (u : VertexId). u.0) us

abbrev pub witness_lists : Witness → Lists
witness_lists witness = vertex_numbers witness.branch ∷ map vertex_numbers witness.paths

-- the lines of the branches and of the paths, which hold no numbers but these
abbrev pub witness_lines : Witness → ℕ → List ℕ
witness_lines witness n = vertex_lines row_front (λ v. []) (witness_lists witness) n

-- the text of a witness with the number k, by the line of its graph
abbrev pub witness_text : ℕ → List ℕ → Witness → List ℕ
witness_text k line witness = witness_first_line k witness.kind line ++ witness_lines witness (length witness.paths + 1)

-- the text of a figure with the number k
abbrev pub IsText : ℕ → Figure → List ℕ → Type 0
IsText k (Grid job lists points) text = text ≡ grid_text k job lists points
IsText k (Bars lists bars) text = text ≡ bars_text k lists bars
IsText k (Rects lists rects) text = text ≡ rects_text k lists rects
IsText k (WitnessFigure graph witness) text = (line : List ℕ) × IsGraphLine line graph × (text ≡ witness_text k line witness)

-- there is a bar for each vertex
pub record HasBars (lists : Lists) (bars : BarFigure) : Type 0 where
  pub y : length bars.y ≡ length lists
  pub x1 : length bars.x1 ≡ length lists
  pub x2 : length bars.x2 ≡ length lists

-- there is a rectangle for each vertex
pub record HasRects (lists : Lists) (rects : RectFigure) : Type 0 where
  pub x1 : length rects.x1 ≡ length lists
  pub x2 : length rects.x2 ≡ length lists
  pub y1 : length rects.y1 ≡ length lists
  pub y2 : length rects.y2 ≡ length lists

-- as many branches and paths as the kind has, and no path is empty
pub record HasPaths (witness : Witness) : Type 0 where
  pub branches : length witness.branch ≡ branch_count witness.kind
  pub paths : length witness.paths ≡ length (pairs_of witness.kind)
  pub some : All (λ path. 0 < length path) witness.paths

-- each list of the drawing but that of the columns has an entry for each vertex, and a witness has all its paths
abbrev pub IsWhole : Figure → Type 0
IsWhole (Grid job lists points) = length points ≡ length lists
IsWhole (Bars lists bars) = HasBars lists bars
IsWhole (Rects lists rects) = HasRects lists rects
IsWhole (WitnessFigure graph witness) = HasPaths witness

-- how many bytes the fronts of n lines take at most, each with the byte that closes its line, where one front takes `longest`
unfoldable pub fronts_room : ℕ → ℕ → ℕ
fronts_room longest n = (longest + 1) * n
