-- Valid figures, and maps without a first dart.
use Rattle.std.proofs.Common.{◌≡◌, ℕ, inl, inr, List, [], length, Contains, refl, ap, ◌∙◌, arith, eqb, eqb-true, true}
use Rattle.std.specs.Prelude.{◌↔◌}
use Rattle.map_lists.specs.Lists.{Lists}
use Rattle.map_theory.specs.Maps.{HasDart, IsSimpleMap, list_of, component_count}
use Rattle.plane_peeling.proofs.Counted.{marks_everywhere}
use Rattle.simple_maps.specs.Laws.{NoFaultIsSimple}
use Rattle.pg_plane.specs.declared.figures.BarFigure.{BarFigure}
use Rattle.bar_check.specs.Laws.{YesIsValid as BarsYesIsValid}
use Rattle.convex_check.specs.Laws.{YesIsConvex}
use Rattle.rect_check.specs.Laws.{YesIsDual}
use Rattle.rect_check.specs.declared.verdict.RectVerdict.TheVariants.{Yes as NoRectFault}
use Rattle.pg_plane.specs.declared.figures.RectFigure.{RectFigure}
use Rattle.half_edges.specs.Map.{first_dart}
use Rattle.kuratowski.proofs.VerdictLemmas.{yes_of_witness}
use Rattle.draw_check.specs.Laws.{YesIsValid}
use Rattle.figure_text.specs.declared.figure.Figure.{Figure}
use Rattle.figure_text.specs.declared.figure.Figure.TheVariants.{Grid, Bars, Rects, Witness as WitnessFigure}
use Rattle.line_inputs.specs.Given.{IsGiven}
use Rattle.figure_verdicts.specs.Validity.{IsValidFigure, IsValidGrid, grid_width, grid_height, bars_width}
use Rattle.std.specs.Prelude.{ℤ, Option, None, ◌≢◌}
use Rattle.std.proofs.lemmas.Int.{ints}
use Rattle.simple_maps.specs.Faults.{Fault}
use Rattle.simple_maps.specs.declared.map_fault.MapFault.{MapFault}
use Rattle.simple_maps.specs.declared.map_fault.MapFault.TheVariants.{OutOfRange, Loop, Repeated, OneSided, NoMemory}
use Rattle.draw_check.specs.Verdicts.{IsVerdict}
use Rattle.draw_check.specs.declared.verdict.Verdict.{Verdict}
use Rattle.draw_check.specs.declared.verdict.Verdict.TheVariants.{OutOfGrid, SamePlace, OnEdge, Cross, Turned, Yes as NoFault}
use Rattle.figure_verdicts.specs.Verdicts.{IsFirstFault}
use Rattle.simple_maps.specs.Faults.{first_fault}
use Rattle.pg_plane.specs.declared.grid_points.Point.{Point}
use Rattle.figure_text.specs.declared.figure.GridJob.{GridJob}
use Rattle.figure_text.specs.declared.figure.GridJob.TheVariants.{Shift, Schnyder, Convex}
use Rattle.figure_verdicts.specs.Verdicts.{IsFigureVerdict, IsJobVerdict, IsFittingVerdict, IsGridVerdict, IsColumnsVerdict, IsBarsVerdict, IsTiledVerdict, IsRectsVerdict}
use Rattle.figure_verdicts.specs.declared.verdict.FigureVerdict.{FigureVerdict}
use Rattle.figure_verdicts.specs.declared.verdict.FigureVerdict.TheVariants.{Refused, Drawing, Inside, Convex as ConvexFault, Bars as BarFault, Rects as RectFault, Witness as WitnessFault, Yes}

none_in : (us : List ℕ) (u : ℕ) → us ≡ [] → ¬ Contains us u
none_in us u e c = let l = c.1 in let n = ap length e in omega arith

-- in a connected map whose vertex 0 has no neighbour there is no dart
pub no_dart : (lists : Lists) → IsSimpleMap lists → component_count lists ≡ 1 → list_of lists 0 ≡ [] → (v u : ℕ) → ¬ HasDart lists v u
no_dart lists simple one none v u dart =
    let alone : (x w : ℕ) → HasDart lists x w → eqb x 0 ≡ true → eqb w 0 ≡ true = λ x w d marked. absurd (none_in (list_of lists x) w (ap (list_of lists) (eqb-true x 0 marked) ∙ none) d.1) in
    let here = marks_everywhere lists simple one (λ x. eqb x 0) alone 0 v simple.some_vertex dart.0 refl in
    none_in (list_of lists v) u (ap (list_of lists) (eqb-true v 0 here) ∙ none) dart.1

-- what a drawing without a fault of its own shows
shape-yes : YesIsValid → (job : GridJob) (lists : Lists) (points : List Point) → IsSimpleMap lists → IsFittingVerdict job lists points Yes → IsValidGrid job lists points
shape-yes is_valid Shift lists points s told = record { simple = s; valid = (is_valid lists points (grid_width Shift lists) (grid_height Shift lists) s).0 told.0; shape = told.1 }
shape-yes is_valid Schnyder lists points s told = record { simple = s; valid = (is_valid lists points (grid_width Schnyder lists) (grid_height Schnyder lists) s).0 told.0; shape = told.1 }
shape-yes is_valid Convex lists points s told = record { simple = s; valid = (is_valid lists points (grid_width Convex lists) (grid_height Convex lists) s).0 told.0; shape = record { base = told.1.0; convex = told.1.1 } }

yes-shape : YesIsValid → (job : GridJob) (lists : Lists) (points : List Point) → IsValidGrid job lists points → IsFittingVerdict job lists points Yes
yes-shape is_valid Shift lists points v = ((is_valid lists points (grid_width Shift lists) (grid_height Shift lists) v.simple).1 v.valid, v.shape)
yes-shape is_valid Schnyder lists points v = ((is_valid lists points (grid_width Schnyder lists) (grid_height Schnyder lists) v.simple).1 v.valid, v.shape)
yes-shape is_valid Convex lists points v = ((is_valid lists points (grid_width Convex lists) (grid_height Convex lists) v.simple).1 v.valid, (v.shape.base, v.shape.convex))

pub yes_is_valid : NoFaultIsSimple → YesIsValid → YesIsDual → (figure : Figure) → IsGiven figure → IsFigureVerdict figure Yes ↔ IsValidFigure figure
yes_is_valid no_fault is_valid is_dual x3 given = grind (arith, Grid, shape-yes, yes-shape, Bars, Rects, NoRectFault, WitnessFigure)

-- a verdict in the grid of the job
pub IsFittingVerdict-of : (job : GridJob) (lists : Lists) (points : List Point) (width height : ℤ) (verdict : FigureVerdict) → width ≡ grid_width job lists → height ≡ grid_height job lists → IsJobVerdict job lists points width height verdict → IsFittingVerdict job lists points verdict
IsFittingVerdict-of job lists points width height verdict wide high drawn = rw (wide, high) at drawn

-- a verdict on a drawing of lists without a fault
pub IsGridVerdict-drawn : (job : GridJob) (lists lists' : Lists) (points : List Point) (verdict : FigureVerdict) → lists' ≡ lists → first_fault lists ≡ None → IsFittingVerdict job lists' points verdict → IsGridVerdict job lists points verdict
IsGridVerdict-drawn job lists lists' points verdict same none drawn = grind (arith, GridJob, FigureVerdict, IsFittingVerdict, IsGridVerdict, Shift, Refused, Schnyder, Convex, Drawing, Inside, ConvexFault, BarFault)

-- a verdict on bars of lists without a fault
pub IsBarsVerdict-drawn : (lists lists' : Lists) (bars : BarFigure) (width : ℤ) (verdict : FigureVerdict) → lists' ≡ lists → width ≡ bars_width lists' → first_fault lists ≡ None → IsColumnsVerdict lists' bars width verdict → IsBarsVerdict lists bars verdict
IsBarsVerdict-drawn lists lists' bars width verdict same wide none drawn = grind (arith, FigureVerdict, IsColumnsVerdict, bars_width, IsBarsVerdict, Refused, Drawing, Inside, ConvexFault, BarFault, RectFault, WitnessFault, Yes)

-- and one on rectangles
pub IsRectsVerdict-drawn : (lists lists' : Lists) (rects : RectFigure) (verdict : FigureVerdict) → lists' ≡ lists → first_fault lists ≡ None → IsTiledVerdict lists' rects verdict → IsRectsVerdict lists rects verdict
IsRectsVerdict-drawn lists lists' rects verdict same none drawn = by_case verdict (rw same at drawn)
  where
    by_case : (verdict : FigureVerdict) → IsTiledVerdict lists rects verdict → IsRectsVerdict lists rects verdict
    by_case (Refused fault) drawn = absurd drawn
    by_case (Drawing v) drawn = absurd drawn
    by_case (Inside v u) drawn = absurd drawn
    by_case (ConvexFault v) drawn = absurd drawn
    by_case (BarFault v) drawn = absurd drawn
    by_case (RectFault v) drawn = (none, drawn)
    by_case (WitnessFault v) drawn = absurd drawn
    by_case Yes drawn = (none, drawn)

-- a drawing that has a fault is not without one
no_other : (lists : Lists) (points : List Point) (width height : ℤ) (verdict : Verdict) → IsVerdict lists points width height verdict → IsVerdict lists points width height NoFault → verdict ≢ NoFault → ⊥
no_other lists points width height x4 least none other = grind (arith, OutOfGrid, SamePlace, OnEdge, Cross, Turned, NoFault)

no_first : (found : Option Fault) (fault : MapFault) → found ≡ None → IsFirstFault found fault → ⊥
no_first found x1 none is = grind (arith, OutOfRange, Loop, Repeated, OneSided, NoMemory)

-- a valid drawing has no fault that its job may have
valid-grid : YesIsValid → YesIsConvex → (job : GridJob) (lists : Lists) (points : List Point) (verdict : FigureVerdict) → IsFittingVerdict job lists points verdict → IsValidGrid job lists points → verdict ≡ Yes
valid-grid is_valid is_convex job lists points (Refused fault) is valid = by job is
  where
    by : (job : GridJob) → IsFittingVerdict job lists points (Refused fault) → Refused fault ≡ Yes
    by Shift is = absurd is
    by Schnyder is = absurd is
    by Convex is = absurd is
valid-grid is_valid is_convex job lists points (Drawing verdict) is valid = by job is valid
  where
    by : (job : GridJob) → IsFittingVerdict job lists points (Drawing verdict) → IsValidGrid job lists points → Drawing verdict ≡ Yes
    by Shift is valid = absurd (no_other lists points (grid_width Shift lists) (grid_height Shift lists) verdict is.0 (yes-shape is_valid Shift lists points valid).0 is.1)
    by Schnyder is valid = absurd (no_other lists points (grid_width Schnyder lists) (grid_height Schnyder lists) verdict is.0 (yes-shape is_valid Schnyder lists points valid).0 is.1)
    by Convex is valid = absurd (no_other lists points (grid_width Convex lists) (grid_height Convex lists) verdict is.0 (yes-shape is_valid Convex lists points valid).0 is.1)
valid-grid is_valid is_convex Shift lists points (Inside v u) is valid =
    let inside = is.2.rest.here in
    absurd (omega (arith, ints, inside.sum, valid.shape is.1 v.0 u.0 inside.dart inside.other))
valid-grid is_valid is_convex Schnyder lists points (Inside v u) is valid =
    let inside = is.2.rest.here in
    absurd (omega (arith, ints, inside.sum, valid.shape is.1 v.0 u.0 inside.dart inside.other))
valid-grid is_valid is_convex Convex lists points (Inside v u) is valid = absurd is
valid-grid is_valid is_convex Shift lists points (ConvexFault verdict) is valid = absurd is
valid-grid is_valid is_convex Schnyder lists points (ConvexFault verdict) is valid = absurd is
valid-grid is_valid is_convex Convex lists points (ConvexFault verdict) is valid = elim is.1.1 [
  | inl bent ↦ absurd (is.1.0 ((is_convex lists points (first_dart lists 0) verdict bent.1).1 valid.shape.convex))
  | inr none ↦ absurd (none.0 valid.shape.base)
]
valid-grid is_valid is_convex Shift lists points (BarFault verdict) is valid = absurd is
valid-grid is_valid is_convex Schnyder lists points (BarFault verdict) is valid = absurd is
valid-grid is_valid is_convex Convex lists points (BarFault verdict) is valid = absurd is
valid-grid is_valid is_convex Shift lists points (RectFault verdict) is valid = absurd is
valid-grid is_valid is_convex Schnyder lists points (RectFault verdict) is valid = absurd is
valid-grid is_valid is_convex Convex lists points (RectFault verdict) is valid = absurd is
valid-grid is_valid is_convex Shift lists points (WitnessFault verdict) is valid = absurd is
valid-grid is_valid is_convex Schnyder lists points (WitnessFault verdict) is valid = absurd is
valid-grid is_valid is_convex Convex lists points (WitnessFault verdict) is valid = absurd is
valid-grid is_valid is_convex job lists points Yes is valid = refl

pub valid_is_yes : NoFaultIsSimple → YesIsValid → BarsYesIsValid → YesIsConvex → YesIsDual → (figure : Figure) (verdict : FigureVerdict) → IsGiven figure → IsFigureVerdict figure verdict → IsValidFigure figure → verdict ≡ Yes
valid_is_yes no_fault is_valid bars_valid is_convex is_dual x5 x6 given is valid = grind (arith, Grid, Refused, no_first, first_fault, Drawing, valid-grid, Inside, ConvexFault, BarFault, RectFault, WitnessFault, Yes)
