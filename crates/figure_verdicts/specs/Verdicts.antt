-- The verdict on a figure.
use Rattle.std.specs.Prelude.{ℤ, ◌≡◌, ◌≢◌, ◌⊎◌, List, Option, Some, None}
use Rattle.map_lists.specs.Lists.{Lists}
use Rattle.map_theory.specs.Maps.{HasDart, component_count}
use Rattle.simple_maps.specs.Faults.{Fault, out_of_range, loop_at, repeated, one_sided, first_fault}
use Rattle.simple_maps.specs.declared.map_fault.MapFault.{MapFault}
use Rattle.simple_maps.specs.declared.map_fault.MapFault.TheVariants.{OutOfRange, Loop, Repeated, OneSided, NoMemory}
use Rattle.half_edges.specs.Map.{first_dart}
use Rattle.pg_plane.specs.declared.grid_points.Point.{Point}
use Rattle.pg_plane.specs.declared.figures.BarFigure.{BarFigure}
use Rattle.pg_plane.specs.declared.figures.RectFigure.{RectFigure}
use Rattle.drawings.specs.Convex.{IsConvex}
use Rattle.convex_check.specs.Verdicts.{IsConvexVerdict}
use Rattle.convex_check.specs.declared.verdict.ConvexVerdict.TheVariants.{OuterBent, Yes as NoBend}
use Rattle.rect_check.specs.Verdicts.{IsRectVerdict}
use Rattle.rect_check.specs.declared.verdict.RectVerdict.TheVariants.{Yes as NoRectFault}
use Rattle.bar_check.specs.Verdicts.{IsBarVerdict}
use Rattle.bar_check.specs.declared.verdict.BarVerdict.TheVariants.{Yes as NoBarFault}
use Rattle.graphs.specs.Graphs.{EdgeGraph}
use Rattle.kuratowski.specs.declared.witness.Witness.{Witness}
use Rattle.kuratowski.specs.Verdicts.{IsVerdict as IsVerdictOf}
use Rattle.kuratowski.specs.declared.check.WitnessVerdict.TheVariants.{Yes as NoWitnessFault}
use Rattle.vertex_rounds.specs.Least.{IsLeastPair}
use Rattle.draw_check.specs.Verdicts.{IsVerdict}
use Rattle.draw_check.specs.Outer.{IsInside}
use Rattle.drawings.specs.OuterFaces.{HasOuterFace}
use Rattle.draw_check.specs.declared.verdict.Verdict.TheVariants.{Yes as NoFault}
use Rattle.figure_text.specs.declared.figure.GridJob.{GridJob}
use Rattle.figure_text.specs.declared.figure.GridJob.TheVariants.{Shift, Schnyder, Convex}
use Rattle.figure_text.specs.declared.figure.Figure.{Figure}
use Rattle.figure_text.specs.declared.figure.Figure.TheVariants.{Grid, Bars, Rects, Witness as WitnessFigure}
use Rattle.figure_verdicts.specs.Validity.{grid_width, grid_height, bars_width}
use Rattle.figure_verdicts.specs.declared.verdict.FigureVerdict.{FigureVerdict}
use Rattle.figure_verdicts.specs.declared.verdict.FigureVerdict.TheVariants.{Refused, Drawing, Inside, Convex as ConvexFault, Bars as BarFault, Rects as RectFault, Witness as WitnessFault, Yes}

-- the fault is the first one of lists
abbrev pub IsFirstFault : Option Fault → MapFault → Type 0
IsFirstFault found (OutOfRange v u) = found ≡ Some (out_of_range v u)
IsFirstFault found (Loop v) = found ≡ Some (loop_at v)
IsFirstFault found (Repeated v u) = found ≡ Some (repeated v u)
IsFirstFault found (OneSided v u) = found ≡ Some (one_sided v u)
IsFirstFault found NoMemory = ⊥

-- The verdict on a drawing of a simple map: the first fault of the drawing; or it has none, and the map is connected and this
-- is the least dart off the face of vertex 0's first dart whose face has no positive area; or there is nothing to be said.
abbrev pub IsDrawnVerdict : Lists → List Point → ℤ → ℤ → FigureVerdict → Type 0
IsDrawnVerdict lists points width height (Refused fault) = ⊥
IsDrawnVerdict lists points width height (Drawing verdict) = IsVerdict lists points width height verdict × (verdict ≢ NoFault)
IsDrawnVerdict lists points width height (Inside v u) =
    IsVerdict lists points width height NoFault × (component_count lists ≡ 1) × IsLeastPair (IsInside lists points (first_dart lists 0)) v.0 u.0
IsDrawnVerdict lists points width height (ConvexFault verdict) = ⊥
IsDrawnVerdict lists points width height (BarFault verdict) = ⊥
IsDrawnVerdict lists points width height (RectFault verdict) = ⊥
IsDrawnVerdict lists points width height (WitnessFault verdict) = ⊥
IsDrawnVerdict lists points width height Yes = IsVerdict lists points width height NoFault × HasOuterFace lists points (first_dart lists 0)

-- vertex 0 has a first dart
abbrev pub HasBase : Lists → Type 0
HasBase lists = HasDart lists (first_dart lists 0).0 (first_dart lists 0).1

-- The verdict on the bends of a drawing, over the first dart of vertex 0: where there is none, the outer face is no triangle.
abbrev pub IsBendVerdict : Lists → List Point → FigureVerdict → Type 0
IsBendVerdict lists points (Refused fault) = ⊥
IsBendVerdict lists points (Drawing verdict) = ⊥
IsBendVerdict lists points (Inside v u) = ⊥
IsBendVerdict lists points (ConvexFault verdict) =
    (verdict ≢ NoBend) × ((HasBase lists × IsConvexVerdict lists points (first_dart lists 0) verdict) ⊎ ((¬ HasBase lists) × (verdict ≡ OuterBent)))
IsBendVerdict lists points (BarFault verdict) = ⊥
IsBendVerdict lists points (RectFault verdict) = ⊥
IsBendVerdict lists points (WitnessFault verdict) = ⊥
IsBendVerdict lists points Yes = HasBase lists × IsConvex lists points (first_dart lists 0)

-- The verdict on a drawing that is to be convex: its first fault, or it has none, and then its bends decide.
abbrev pub IsShapedVerdict : Lists → List Point → ℤ → ℤ → FigureVerdict → Type 0
IsShapedVerdict lists points width height (Refused fault) = ⊥
IsShapedVerdict lists points width height (Drawing verdict) = IsVerdict lists points width height verdict × (verdict ≢ NoFault)
IsShapedVerdict lists points width height (Inside v u) = ⊥
IsShapedVerdict lists points width height (ConvexFault verdict) = IsVerdict lists points width height NoFault × IsBendVerdict lists points (ConvexFault verdict)
IsShapedVerdict lists points width height (BarFault verdict) = ⊥
IsShapedVerdict lists points width height (RectFault verdict) = ⊥
IsShapedVerdict lists points width height (WitnessFault verdict) = ⊥
IsShapedVerdict lists points width height Yes = IsVerdict lists points width height NoFault × IsBendVerdict lists points Yes

-- by what a drawing is to be
abbrev pub IsJobVerdict : GridJob → Lists → List Point → ℤ → ℤ → FigureVerdict → Type 0
IsJobVerdict Shift lists points width height verdict = IsDrawnVerdict lists points width height verdict
IsJobVerdict Schnyder lists points width height verdict = IsDrawnVerdict lists points width height verdict
IsJobVerdict Convex lists points width height verdict = IsShapedVerdict lists points width height verdict

-- `IsJobVerdict` in the grid of the job
abbrev pub IsFittingVerdict : GridJob → Lists → List Point → FigureVerdict → Type 0
IsFittingVerdict job lists points verdict = IsJobVerdict job lists points (grid_width job lists) (grid_height job lists) verdict

-- `IsFittingVerdict` of lists that may be no simple map, whose first fault then comes first
abbrev pub IsGridVerdict : GridJob → Lists → List Point → FigureVerdict → Type 0
IsGridVerdict job lists points (Refused fault) = IsFirstFault (first_fault lists) fault
IsGridVerdict job lists points (Drawing verdict) = (first_fault lists ≡ None) × IsFittingVerdict job lists points (Drawing verdict)
IsGridVerdict job lists points (Inside v u) = (first_fault lists ≡ None) × IsFittingVerdict job lists points (Inside v u)
IsGridVerdict job lists points (ConvexFault verdict) = (first_fault lists ≡ None) × IsFittingVerdict job lists points (ConvexFault verdict)
IsGridVerdict job lists points (BarFault verdict) = ⊥
IsGridVerdict job lists points (RectFault verdict) = ⊥
IsGridVerdict job lists points (WitnessFault verdict) = ⊥
IsGridVerdict job lists points Yes = (first_fault lists ≡ None) × IsFittingVerdict job lists points Yes

-- The verdict on the bars of a simple map: their first fault within this width, or that they have none.
abbrev pub IsColumnsVerdict : Lists → BarFigure → ℤ → FigureVerdict → Type 0
IsColumnsVerdict lists bars width (Refused fault) = ⊥
IsColumnsVerdict lists bars width (Drawing verdict) = ⊥
IsColumnsVerdict lists bars width (Inside v u) = ⊥
IsColumnsVerdict lists bars width (ConvexFault verdict) = ⊥
IsColumnsVerdict lists bars width (BarFault verdict) = IsBarVerdict lists bars width verdict × (verdict ≢ NoBarFault)
IsColumnsVerdict lists bars width (RectFault verdict) = ⊥
IsColumnsVerdict lists bars width (WitnessFault verdict) = ⊥
IsColumnsVerdict lists bars width Yes = IsBarVerdict lists bars width NoBarFault

-- The verdict on bars, of lists that may be no simple map: their first fault then comes first.
abbrev pub IsBarsVerdict : Lists → BarFigure → FigureVerdict → Type 0
IsBarsVerdict lists bars (Refused fault) = IsFirstFault (first_fault lists) fault
IsBarsVerdict lists bars (Drawing verdict) = ⊥
IsBarsVerdict lists bars (Inside v u) = ⊥
IsBarsVerdict lists bars (ConvexFault verdict) = ⊥
IsBarsVerdict lists bars (BarFault verdict) = (first_fault lists ≡ None) × IsColumnsVerdict lists bars (bars_width lists) (BarFault verdict)
IsBarsVerdict lists bars (RectFault verdict) = ⊥
IsBarsVerdict lists bars (WitnessFault verdict) = ⊥
IsBarsVerdict lists bars Yes = (first_fault lists ≡ None) × IsColumnsVerdict lists bars (bars_width lists) Yes

-- The verdict on the rectangles of a simple map: their first fault, or that they have none.
abbrev pub IsTiledVerdict : Lists → RectFigure → FigureVerdict → Type 0
IsTiledVerdict lists rects (Refused fault) = ⊥
IsTiledVerdict lists rects (Drawing verdict) = ⊥
IsTiledVerdict lists rects (Inside v u) = ⊥
IsTiledVerdict lists rects (ConvexFault verdict) = ⊥
IsTiledVerdict lists rects (BarFault verdict) = ⊥
IsTiledVerdict lists rects (RectFault verdict) = IsRectVerdict lists rects verdict × (verdict ≢ NoRectFault)
IsTiledVerdict lists rects (WitnessFault verdict) = ⊥
IsTiledVerdict lists rects Yes = IsRectVerdict lists rects NoRectFault

-- The verdict on rectangles, of lists that may be no simple map: their first fault then comes first.
abbrev pub IsRectsVerdict : Lists → RectFigure → FigureVerdict → Type 0
IsRectsVerdict lists rects (Refused fault) = IsFirstFault (first_fault lists) fault
IsRectsVerdict lists rects (Drawing verdict) = ⊥
IsRectsVerdict lists rects (Inside v u) = ⊥
IsRectsVerdict lists rects (ConvexFault verdict) = ⊥
IsRectsVerdict lists rects (BarFault verdict) = ⊥
IsRectsVerdict lists rects (RectFault verdict) = (first_fault lists ≡ None) × IsTiledVerdict lists rects (RectFault verdict)
IsRectsVerdict lists rects (WitnessFault verdict) = ⊥
IsRectsVerdict lists rects Yes = (first_fault lists ≡ None) × IsTiledVerdict lists rects Yes

-- The verdict on a witness: its first fault, or that it has none.
abbrev pub IsWitnessVerdict : EdgeGraph → Witness → FigureVerdict → Type 0
IsWitnessVerdict graph witness (Refused fault) = ⊥
IsWitnessVerdict graph witness (Drawing verdict) = ⊥
IsWitnessVerdict graph witness (Inside v u) = ⊥
IsWitnessVerdict graph witness (ConvexFault verdict) = ⊥
IsWitnessVerdict graph witness (BarFault verdict) = ⊥
IsWitnessVerdict graph witness (RectFault verdict) = ⊥
IsWitnessVerdict graph witness (WitnessFault verdict) = IsVerdictOf graph witness.kind witness.branch witness.paths verdict × (verdict ≢ NoWitnessFault)
IsWitnessVerdict graph witness Yes = IsVerdictOf graph witness.kind witness.branch witness.paths NoWitnessFault

-- by the kind of the figure
abbrev pub IsFigureVerdict : Figure → FigureVerdict → Type 0
IsFigureVerdict (Grid job lists points) verdict = IsGridVerdict job lists points verdict
IsFigureVerdict (Bars lists bars) verdict = IsBarsVerdict lists bars verdict
IsFigureVerdict (Rects lists rects) verdict = IsRectsVerdict lists rects verdict
IsFigureVerdict (WitnessFigure graph witness) verdict = IsWitnessVerdict graph witness verdict
