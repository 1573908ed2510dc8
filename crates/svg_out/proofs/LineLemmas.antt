-- One line more.
use Rattle.std.proofs.Common.{◌≡◌, ℕ, ℤ, ◌+◌, List, ◌++◌, refl, add-one}
use Rattle.pg_plane.specs.declared.figures.BarFigure.{BarFigure}
use Rattle.pg_plane.specs.declared.figures.RectFigure.{RectFigure}
use Rattle.map_theory.specs.Maps.{Dart}
use Rattle.figure_text.specs.Text.{integer_at}
use Rattle.svg_out.specs.Svg.{bar, upright, bar_marks, column_marks, edge_at, tile, tiles}

pub bar_marks-more : (bars : BarFigure) (height : ℤ) (v : ℕ) → bar_marks bars height (v + 1) ≡ bar_marks bars height v ++ bar height (integer_at bars.y v) (integer_at bars.x1 v) (integer_at bars.x2 v)
unfolding bar_marks
bar_marks-more bars height v = rw add-one refl

pub column_marks-more : (es : List Dart) (bars : BarFigure) (height : ℤ) (i : ℕ) → column_marks es bars height (i + 1) ≡ column_marks es bars height i ++ upright height (integer_at bars.column i) (integer_at bars.y (edge_at es i).0) (integer_at bars.y (edge_at es i).1)
unfolding column_marks
column_marks-more es bars height i = rw add-one refl

pub tiles-more : (rects : RectFigure) (height : ℤ) (v : ℕ) → tiles rects height (v + 1) ≡ tiles rects height v ++ tile height (integer_at rects.x1 v) (integer_at rects.x2 v) (integer_at rects.y1 v) (integer_at rects.y2 v)
unfolding tiles
tiles-more rects height v = rw add-one refl
