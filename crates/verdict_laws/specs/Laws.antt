-- There is at most one verdict on each drawing, and at most one condition that lists break first.
use Rattle.std.specs.Prelude.{ℕ, ◌<◌, List, length, ℤ}
use Rattle.map_lists.specs.Lists.{Lists}
use Rattle.map_lists.specs.declared.ids.VertexId.{VertexId}
use Rattle.map_theory.specs.Maps.{Dart}
use Rattle.pg_plane.specs.declared.grid_points.Point.{Point}
use Rattle.pg_plane.specs.declared.figures.BarFigure.{BarFigure}
use Rattle.pg_plane.specs.declared.figures.RectFigure.{RectFigure}
use Rattle.draw_check.specs.Verdicts.{IsVerdict}
use Rattle.draw_check.specs.Outer.{IsOuterVerdict}
use Rattle.draw_check.specs.declared.verdict.Verdict.{Verdict}
use Rattle.draw_check.specs.declared.verdict.OuterVerdict.{OuterVerdict}
use Rattle.convex_check.specs.Verdicts.{IsConvexVerdict}
use Rattle.convex_check.specs.declared.verdict.ConvexVerdict.{ConvexVerdict}
use Rattle.bar_check.specs.Verdicts.{IsBarVerdict}
use Rattle.bar_check.specs.declared.verdict.BarVerdict.{BarVerdict}
use Rattle.rect_check.specs.Verdicts.{IsRectVerdict}
use Rattle.rect_check.specs.declared.verdict.RectVerdict.{RectVerdict}
use Rattle.graphs.specs.Graphs.{EdgeGraph}
use Rattle.kuratowski.specs.Verdicts.{IsVerdict as IsWitnessVerdict}
use Rattle.kuratowski.specs.declared.witness.Kind.{Kind}
use Rattle.kuratowski.specs.declared.check.WitnessVerdict.{WitnessVerdict}
use Rattle.figure_text.specs.declared.figure.Figure.{Figure}
use Rattle.figure_verdicts.specs.Verdicts.{IsFigureVerdict}
use Rattle.figure_verdicts.specs.declared.verdict.FigureVerdict.{FigureVerdict}
use Rattle.refusals.specs.declared.conditions.Refusal.{Refusal}
use Rattle.conn_parts.specs.BiconnectedMaps.{BreaksFirst}
use Rattle.convex_class.specs.Convexity.{BreaksConvex}
use Rattle.rect_class.specs.Refusals.{BreaksRect}
use Rattle.verdict_laws.specs.AtMostOne.{AtMostOne}

-- one verdict on a drawing in a grid, and one on its outer face
abbrev pub OneVerdict : Type 0
OneVerdict = (lists : Lists) (points : List Point) (width height : ℤ) → AtMostOne Verdict (IsVerdict lists points width height)

-- The outer face of a drawing has at most one verdict.
abbrev pub OneOuterVerdict : Type 0
OneOuterVerdict = (lists : Lists) (points : List Point) (base : Dart) → AtMostOne OuterVerdict (IsOuterVerdict lists points base)

-- one on the bends of a drawing
abbrev pub OneConvexVerdict : Type 0
OneConvexVerdict = (lists : Lists) (points : List Point) (base : Dart) → AtMostOne ConvexVerdict (IsConvexVerdict lists points base)

-- one on bars within a width
abbrev pub OneBarVerdict : Type 0
OneBarVerdict = (lists : Lists) (bars : BarFigure) (width : ℤ) → AtMostOne BarVerdict (IsBarVerdict lists bars width)

-- one on rectangles
abbrev pub OneRectVerdict : Type 0
OneRectVerdict = (lists : Lists) (rects : RectFigure) → AtMostOne RectVerdict (IsRectVerdict lists rects)

-- one on a witness
abbrev pub OneWitnessVerdict : Type 0
OneWitnessVerdict = (graph : EdgeGraph) (kind : Kind) (branch : List VertexId) (paths : List (List VertexId)) → AtMostOne WitnessVerdict (IsWitnessVerdict graph kind branch paths)

-- one on a figure
abbrev pub OneFigureVerdict : Type 0
OneFigureVerdict = (figure : Figure) → AtMostOne FigureVerdict (IsFigureVerdict figure)

-- Lists break one condition first: of those on biconnected maps, on three-connected ones, and on rectangular duals.
abbrev pub OneBreak : Type 0
OneBreak = (least : ℕ) (lists : Lists) → AtMostOne Refusal (BreaksFirst least lists)

-- Lists break at most one condition on three-connected maps first.
abbrev pub OneConvexBreak : Type 0
OneConvexBreak = (lists : Lists) → 0 < length lists → AtMostOne Refusal (BreaksConvex lists)

-- Lists break at most one condition on maps with rectangular duals first.
abbrev pub OneRectBreak : Type 0
OneRectBreak = (lists : Lists) → 0 < length lists → AtMostOne Refusal (BreaksRect lists)
