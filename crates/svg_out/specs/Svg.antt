-- Figures as SVG: lines of tags, each closed by byte 10. A unit of the figure is ten of the picture, and y goes down.
use Rattle.std.specs.Prelude.{ℕ, ℤ, pos, ◌+ℤ◌, ◌-ℤ◌, ◌*ℤ◌, ◌≡◌, List, [], ◌∷◌, ◌++◌, length, map, fold, flat_map, slice_index_or, codes}
use Rattle.std.specs.Int.{int_max}
use Rattle.std.specs.Fmt.{signed_decimal}
use Rattle.map_lists.specs.Lists.{Lists}
use Rattle.map_theory.specs.Maps.{Dart, IsSimpleMap, vertex_count, edge_count}
use Rattle.pg_plane.specs.declared.grid_points.Point.{Point}
use Rattle.pg_plane.specs.declared.figures.BarFigure.{BarFigure}
use Rattle.pg_plane.specs.declared.figures.RectFigure.{RectFigure}
use Rattle.figure_text.specs.Text.{point_at, integer_at, texts, HasBars, HasRects, HasPaths, witness_text}
use Rattle.graphs.specs.Graphs.{EdgeGraph}
use Rattle.graph6_text.specs.Lines.{IsLine as IsGraphLine}
use Rattle.kuratowski.specs.declared.witness.Witness.{Witness as AWitness}
use Rattle.figure_text.specs.declared.figure.Figure.{Figure}
use Rattle.figure_text.specs.declared.figure.Figure.TheVariants.{Grid, Bars, Rects, Witness}
use Rattle.svg_out.specs.Edges.{edges}

-- the greatest of 0 and some numbers
abbrev pub greatest : List ℤ → ℤ
greatest zs = fold int_max (pos 0) zs

-- how far right x lies in the picture
abbrev pub across : ℤ → ℤ
across x = pos 10 *ℤ x

-- how far down y lies in the picture of a figure of this height
abbrev pub down : ℤ → ℤ → ℤ
down height y = pos 10 *ℤ (height -ℤ y)

-- how long from p to q is in the picture
abbrev pub extent : ℤ → ℤ → ℤ
extent p q = pos 10 *ℤ (q -ℤ p)

-- an attribute of a tag, with a space before it
unfoldable pub attribute : List ℕ → ℤ → List ℕ
attribute name z = 32 ∷ name ++ codes "=\"" ++ signed_decimal z ++ codes "\""

-- the two ends of a segment from (xa, ya) to (xb, yb) in the picture
unfoldable pub ends : ℤ → ℤ → ℤ → ℤ → List ℕ
ends xa ya xb yb = attribute (codes "x1") xa ++ attribute (codes "y1") ya ++ attribute (codes "x2") xb ++ attribute (codes "y2") yb

-- where a rectangle stands in the picture, by its upper left corner, and how wide and how high it is
unfoldable pub sides : ℤ → ℤ → ℤ → ℤ → List ℕ
sides x y width height = attribute (codes "x") x ++ attribute (codes "y") y ++ attribute (codes "width") width ++ attribute (codes "height") height

-- the tag of a segment, with more attributes behind the others
unfoldable pub segment : ℤ → ℤ → ℤ → ℤ → List ℕ → List ℕ
segment xa ya xb yb more = codes "<line" ++ ends xa ya xb yb ++ codes " stroke=\"black\"" ++ more ++ codes "/>" ++ 10 ∷ []

-- how each picture begins
unfoldable pub front : List ℕ
front = codes "<svg xmlns=\"http://www.w3.org/2000/svg\" viewBox=\"-10 -10 "

-- the first line, for a figure of this width and height
unfoldable pub opening : ℤ → ℤ → List ℕ
opening width height =
    front ++ signed_decimal (pos 10 *ℤ width +ℤ pos 20) ++ 32 ∷ signed_decimal (pos 10 *ℤ height +ℤ pos 20) ++ codes "\">" ++ 10 ∷ []

-- the last line
unfoldable pub closing : List ℕ
closing = codes "</svg>" ++ 10 ∷ []

-- an edge of a straight-line drawing of this height: from its lesser end to its greater
abbrev pub straight_edge : List Point → ℤ → Dart → List ℕ
straight_edge points height e =
    segment (across (point_at points e.0).x) (down height (point_at points e.0).y) (across (point_at points e.1).x) (down height (point_at points e.1).y) []

-- a vertex of a straight-line drawing of this height
unfoldable pub dot : ℤ → Point → List ℕ
dot height p = codes "<circle" ++ attribute (codes "cx") (across p.x) ++ attribute (codes "cy") (down height p.y) ++ codes " r=\"3\"/>" ++ 10 ∷ []

-- how thick a bar is
unfoldable pub thick : List ℕ
thick = codes " stroke-width=\"3\""

-- the bar from a to b at y, in a drawing of this height: a little longer at both ends
abbrev pub bar : ℤ → ℤ → ℤ → ℤ → List ℕ
bar height y a b = segment (across a -ℤ pos 3) (down height y) (across b +ℤ pos 3) (down height y) thick

-- an upright segment at x from the height `first` to `second`, in a drawing of this height
abbrev pub upright : ℤ → ℤ → ℤ → ℤ → List ℕ
upright height x first second = segment (across x) (down height first) (across x) (down height second) []

-- the edges and then the vertices of a straight-line drawing of this height
unfoldable pub grid_body : Lists → List Point → ℤ → List ℕ
grid_body lists points height = flat_map (straight_edge points height) (edges lists) ++ flat_map (dot height) points

-- the bars of n vertices
unfoldable pub bar_marks : BarFigure → ℤ → ℕ → List ℕ
bar_marks bars height n = texts (λ v. bar height (integer_at bars.y v) (integer_at bars.x1 v) (integer_at bars.x2 v)) n

-- edge number i
abbrev pub edge_at : List Dart → ℕ → Dart
edge_at es i = slice_index_or es i (0, 0)

-- the first m edges, each at its column, from the bar of its lesser end to that of its greater
unfoldable pub column_marks : List Dart → BarFigure → ℤ → ℕ → List ℕ
column_marks es bars height m = texts (λ i. upright height (integer_at bars.column i) (integer_at bars.y (edge_at es i).0) (integer_at bars.y (edge_at es i).1)) m

-- the bars and then the edges of a visibility drawing of this height
unfoldable pub bars_body : Lists → BarFigure → ℤ → List ℕ
bars_body lists bars height = bar_marks bars height (vertex_count lists) ++ column_marks (edges lists) bars height (length (edges lists))

-- how a rectangle is drawn: its sides alone
unfoldable pub unfilled : List ℕ
unfilled = codes " fill=\"none\" stroke=\"black\"/>" ++ 10 ∷ []

-- the rectangle from a to b and from c up to d, in a drawing of this height
unfoldable pub tile : ℤ → ℤ → ℤ → ℤ → ℤ → List ℕ
tile height a b c d = codes "<rect" ++ sides (across a) (down height d) (extent a b) (extent c d) ++ unfilled

-- the rectangles of n vertices
unfoldable pub tiles : RectFigure → ℤ → ℕ → List ℕ
tiles rects height n = texts (λ v. tile height (integer_at rects.x1 v) (integer_at rects.x2 v) (integer_at rects.y1 v) (integer_at rects.y2 v)) n

-- a straight-line drawing as SVG
abbrev pub grid_svg : Lists → List Point → List ℕ
grid_svg lists points =
    let height = greatest (map (λ p. p.y) points) in
    opening (greatest (map (λ p. p.x) points)) height ++ grid_body lists points height ++ closing

-- a visibility drawing as SVG
abbrev pub bars_svg : Lists → BarFigure → List ℕ
bars_svg lists bars =
    let height = greatest bars.y in
    opening (greatest (bars.x2 ++ bars.column)) height ++ bars_body lists bars height ++ closing

-- a rectangular dual as SVG
abbrev pub rects_svg : Lists → RectFigure → List ℕ
rects_svg lists rects =
    let height = greatest rects.y2 in
    opening (greatest rects.x2) height ++ tiles rects height (length lists) ++ closing

-- what stands before and behind the text of a witness, which is a comment
unfoldable pub comment_start : List ℕ
comment_start = codes "<!--" ++ 10 ∷ []

unfoldable pub comment_end : List ℕ
comment_end = codes "-->" ++ 10 ∷ []

-- a witness is written as its text with the number k, in a comment
abbrev pub IsWitnessSvg : ℕ → EdgeGraph → AWitness → List ℕ → Type 0
IsWitnessSvg k graph witness svg =
    (line : List ℕ) × IsGraphLine line graph × (svg ≡ comment_start ++ witness_text k line witness ++ comment_end)

-- figure k as SVG
abbrev pub IsSvg : ℕ → Figure → List ℕ → Type 0
IsSvg k (Grid job lists points) svg = svg ≡ grid_svg lists points
IsSvg k (Bars lists bars) svg = svg ≡ bars_svg lists bars
IsSvg k (Rects lists rects) svg = svg ≡ rects_svg lists rects
IsSvg k (Witness graph witness) svg = IsWitnessSvg k graph witness svg

-- a bar for each vertex, and a column for each edge
pub record HasColumns (lists : Lists) (bars : BarFigure) : Type 0 where
  pub has_bars : HasBars lists bars
  pub columns : length bars.column ≡ edge_count lists

-- the lists of a figure are a simple map, and its drawing has an entry for each vertex, and for bars one for each edge; a
-- witness has all its paths
abbrev pub IsDrawn : Figure → Type 0
IsDrawn (Grid job lists points) = IsSimpleMap lists × (length points ≡ length lists)
IsDrawn (Bars lists bars) = IsSimpleMap lists × HasColumns lists bars
IsDrawn (Rects lists rects) = IsSimpleMap lists × HasRects lists rects
IsDrawn (Witness graph witness) = HasPaths witness
