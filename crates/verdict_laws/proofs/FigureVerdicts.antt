-- One verdict on a figure.
use Rattle.std.proofs.Common.{◌≡◌, ◌≢◌, ◌⊎◌, inl, inr, refl, sym, ap, ap₂, ◌∙◌, List, ℤ, Option, Some, None}
use Rattle.std.specs.Prelude.{unwrap_or}
use Rattle.map_lists.specs.Lists.{Lists}
use Rattle.map_lists.specs.declared.ids.VertexId.{VertexId}
use Rattle.map_theory.specs.Maps.{component_count}
use Rattle.simple_maps.specs.Faults.{Fault, out_of_range, loop_at, repeated, one_sided, first_fault}
use Rattle.simple_maps.specs.declared.map_fault.MapFault.{MapFault}
use Rattle.simple_maps.specs.declared.map_fault.MapFault.TheVariants.{OutOfRange, Loop, Repeated, OneSided, NoMemory}
use Rattle.half_edges.specs.Map.{first_dart}
use Rattle.pg_plane.specs.declared.grid_points.Point.{Point}
use Rattle.pg_plane.specs.declared.figures.BarFigure.{BarFigure}
use Rattle.pg_plane.specs.declared.figures.RectFigure.{RectFigure}
use Rattle.vertex_rounds.specs.Least.{IsLeastPair}
use Rattle.draw_check.specs.Verdicts.{IsVerdict}
use Rattle.draw_check.specs.Outer.{IsInside}
use Rattle.drawings.specs.OuterFaces.{HasOuterFace}
use Rattle.draw_check.specs.declared.verdict.Verdict.{Verdict}
use Rattle.draw_check.specs.declared.verdict.Verdict.TheVariants.{Yes as NoFault}
use Rattle.drawings.specs.Convex.{IsConvex}
use Rattle.convex_check.specs.Verdicts.{IsConvexVerdict}
use Rattle.convex_check.specs.declared.verdict.ConvexVerdict.{ConvexVerdict}
use Rattle.convex_check.specs.declared.verdict.ConvexVerdict.TheVariants.{OuterBent, Yes as NoBend}
use Rattle.bar_check.specs.Verdicts.{IsBarVerdict}
use Rattle.bar_check.specs.declared.verdict.BarVerdict.TheVariants.{Yes as NoBarFault}
use Rattle.rect_check.specs.Verdicts.{IsRectVerdict}
use Rattle.rect_check.specs.declared.verdict.RectVerdict.TheVariants.{Yes as NoRectFault}
use Rattle.graphs.specs.Graphs.{EdgeGraph}
use Rattle.kuratowski.specs.Verdicts.{IsVerdict as IsVerdictOf}
use Rattle.kuratowski.specs.declared.witness.Witness.{Witness}
use Rattle.kuratowski.specs.declared.check.WitnessVerdict.{WitnessVerdict}
use Rattle.kuratowski.specs.declared.check.WitnessVerdict.TheVariants.{Yes as NoWitnessFault}
use Rattle.figure_text.specs.declared.figure.GridJob.{GridJob}
use Rattle.figure_text.specs.declared.figure.GridJob.TheVariants.{Shift, Schnyder, Convex}
use Rattle.figure_text.specs.declared.figure.Figure.{Figure}
use Rattle.figure_text.specs.declared.figure.Figure.TheVariants.{Grid, Bars, Rects, Witness as WitnessFigure}
use Rattle.figure_verdicts.specs.Validity.{grid_width, grid_height, bars_width}
use Rattle.figure_verdicts.specs.Verdicts.{IsFirstFault, IsDrawnVerdict, HasBase, IsShapedVerdict, IsFittingVerdict, IsGridVerdict, IsBarsVerdict, IsRectsVerdict, IsWitnessVerdict, IsFigureVerdict}
use Rattle.figure_verdicts.specs.declared.verdict.FigureVerdict.{FigureVerdict}
use Rattle.figure_verdicts.specs.declared.verdict.FigureVerdict.TheVariants.{Refused, Drawing, Inside, Convex as ConvexFault, Bars as BarFault, Rects as RectFault, Witness as WitnessFault, Yes}
use Rattle.verdict_laws.specs.AtMostOne.{AtMostOne}
use Rattle.verdict_laws.proofs.Firsts.{IsFirstOr, one_or_others, only_one, pair_first, pair_second, same_vertex}
use Rattle.verdict_laws.proofs.GridVerdicts.{one_verdict, inside_is_not_outer}
use Rattle.verdict_laws.proofs.ConvexVerdicts.{one_convex_verdict}
use Rattle.verdict_laws.proofs.BarVerdicts.{one_bar_verdict}
use Rattle.verdict_laws.proofs.RectVerdicts.{one_rect_verdict}
use Rattle.verdict_laws.proofs.WitnessVerdicts.{one_witness_verdict}

-- a value found is one, and not none
found_once : {X : Type 0} (found : Option X) (x y : X) → found ≡ Some x → found ≡ Some y → x ≡ y
found_once found x y e f = ap (λ o. unwrap_or o x) (sym e ∙ f)

found_not_none : {X : Type 0} (found : Option X) (x : X) → found ≡ Some x → found ≡ None → ⊥
found_not_none found x e f = let h : Some x ≡ None = sym e ∙ f in cc

-- a verdict that is a fault of its kind, other than this one, of which there is one
one_fault : {V : Type 0} (P : V → Type 0) (good : V) (to : V → FigureVerdict) → AtMostOne V P → AtMostOne FigureVerdict (λ verdict. (v : V) × (verdict ≡ to v) × P v × (v ≢ good))
one_fault P good to one v w f g = f.1 ∙ (ap to (one f.0 g.0 f.2 g.2) ∙ sym g.1)

-- the fault of lists, as a verdict
fault_of : Fault → MapFault
fault_of (out_of_range v u) = OutOfRange v u
fault_of (loop_at v) = Loop v
fault_of (repeated v u) = Repeated v u
fault_of (one_sided v u) = OneSided v u

module _ (lists : Lists) where
  -- the lists have a first fault, and the verdict is that
  abbrev Faults : FigureVerdict → Type 0
  Faults verdict = (fault : Fault) × (verdict ≡ Refused (fault_of fault)) × (first_fault lists ≡ Some fault)

  refused : (fault : MapFault) → IsFirstFault (first_fault lists) fault → Faults (Refused fault)
  unfolding fault_of
  refused (OutOfRange v u) h = (out_of_range v u, refl, h)
  refused (Loop v) h = (loop_at v, refl, h)
  refused (Repeated v u) h = (repeated v u, refl, h)
  refused (OneSided v u) h = (one_sided v u, refl, h)
  refused NoMemory h = absurd h

  one_refused : AtMostOne FigureVerdict Faults
  one_refused v w f g = f.1 ∙ (ap (λ fault. Refused (fault_of fault)) (found_once (first_fault lists) f.0 g.0 f.2 g.2) ∙ sym g.1)

  -- a verdict on lists that may be no simple map
  from_faults : (Others : FigureVerdict → Type 0) → AtMostOne FigureVerdict Others → AtMostOne FigureVerdict (IsFirstOr FigureVerdict Faults (first_fault lists ≡ None) Others)
  from_faults Others others = one_or_others FigureVerdict Faults (first_fault lists ≡ None) Others one_refused (λ v f none. found_not_none (first_fault lists) f.0 f.2 none) others

module _ (lists : Lists) (points : List Point) (width height : ℤ) where
  abbrev Drawn : FigureVerdict → Type 0
  Drawn verdict = (v : Verdict) × (verdict ≡ Drawing v) × IsVerdict lists points width height v × (v ≢ NoFault)

  one_drawn : AtMostOne FigureVerdict Drawn
  one_drawn = one_fault (IsVerdict lists points width height) NoFault (λ v. Drawing v) (one_verdict lists points width height)

  -- the drawing has a fault, or none and then something else
  from_drawn : (Others : FigureVerdict → Type 0) → AtMostOne FigureVerdict Others → AtMostOne FigureVerdict (IsFirstOr FigureVerdict Drawn (IsVerdict lists points width height NoFault) Others)
  from_drawn Others others = one_or_others FigureVerdict Drawn (IsVerdict lists points width height NoFault) Others one_drawn (λ v f none. f.3 (one_verdict lists points width height f.0 NoFault f.2 none)) others

  -- its outer face is another
  abbrev Inward : FigureVerdict → Type 0
  Inward verdict = (v : VertexId) × (u : VertexId) × (verdict ≡ Inside v u) × (component_count lists ≡ 1) × IsLeastPair (IsInside lists points (first_dart lists 0)) v.0 u.0

  abbrev FromInward : FigureVerdict → Type 0
  FromInward = IsFirstOr FigureVerdict Inward (HasOuterFace lists points (first_dart lists 0)) (λ verdict. verdict ≡ Yes)

  one_inward : AtMostOne FigureVerdict Inward
  one_inward v w f g =
      let P = IsInside lists points (first_dart lists 0) in
      f.2 ∙ (ap₂ (λ a b. Inside a b) (same_vertex f.0 g.0 (pair_first P f.0.0 f.1.0 g.0.0 g.1.0 f.4 g.4)) (same_vertex f.1 g.1 (pair_second P f.0.0 f.1.0 g.0.0 g.1.0 f.4 g.4)) ∙ sym g.2)

  from_inward : AtMostOne FigureVerdict FromInward
  from_inward =
      one_or_others FigureVerdict Inward (HasOuterFace lists points (first_dart lists 0)) (λ verdict. verdict ≡ Yes) one_inward
      (λ v f face. inside_is_not_outer lists points (first_dart lists 0) f.0.0 f.1.0 f.3 f.4.rest.here face) (only_one FigureVerdict Yes)

  -- it bends
  abbrev Bending : ConvexVerdict → Type 0
  Bending verdict = (HasBase lists × IsConvexVerdict lists points (first_dart lists 0) verdict) ⊎ ((¬ HasBase lists) × (verdict ≡ OuterBent))

  one_bending : AtMostOne ConvexVerdict Bending
  one_bending v w (inl f) (inl g) = one_convex_verdict lists points (first_dart lists 0) v w f.1 g.1
  one_bending v w (inl f) (inr g) = absurd (g.0 f.0)
  one_bending v w (inr f) (inl g) = absurd (f.0 g.0)
  one_bending v w (inr f) (inr g) = f.1 ∙ sym g.1

  abbrev Bent : FigureVerdict → Type 0
  Bent verdict = (v : ConvexVerdict) × (verdict ≡ ConvexFault v) × Bending v × (v ≢ NoBend)

  abbrev FromBent : FigureVerdict → Type 0
  FromBent = IsFirstOr FigureVerdict Bent (HasBase lists × IsConvex lists points (first_dart lists 0)) (λ verdict. verdict ≡ Yes)

  from_bent : AtMostOne FigureVerdict FromBent
  from_bent =
      one_or_others FigureVerdict Bent (HasBase lists × IsConvex lists points (first_dart lists 0)) (λ verdict. verdict ≡ Yes) (one_fault Bending NoBend (λ v. ConvexFault v) one_bending)
      (λ v f good. f.3 (one_bending f.0 NoBend f.2 (inl (good.0, good.1)))) (only_one FigureVerdict Yes)

  drawn_in_turn : (verdict : FigureVerdict) → IsDrawnVerdict lists points width height verdict → IsFirstOr FigureVerdict Drawn (IsVerdict lists points width height NoFault) FromInward verdict
  drawn_in_turn (Refused fault) h = absurd h
  drawn_in_turn (Drawing v) h = inl (v, refl, h.0, h.1)
  drawn_in_turn (Inside v u) h = inr (h.0, inl (v, u, refl, h.1, h.2))
  drawn_in_turn (ConvexFault v) h = absurd h
  drawn_in_turn (BarFault v) h = absurd h
  drawn_in_turn (RectFault v) h = absurd h
  drawn_in_turn (WitnessFault v) h = absurd h
  drawn_in_turn Yes h = inr (h.0, inr (h.1, refl))

  shaped_in_turn : (verdict : FigureVerdict) → IsShapedVerdict lists points width height verdict → IsFirstOr FigureVerdict Drawn (IsVerdict lists points width height NoFault) FromBent verdict
  shaped_in_turn (Refused fault) h = absurd h
  shaped_in_turn (Drawing v) h = inl (v, refl, h.0, h.1)
  shaped_in_turn (Inside v u) h = absurd h
  shaped_in_turn (ConvexFault v) h = inr (h.0, inl (v, refl, h.1.1, h.1.0))
  shaped_in_turn (BarFault v) h = absurd h
  shaped_in_turn (RectFault v) h = absurd h
  shaped_in_turn (WitnessFault v) h = absurd h
  shaped_in_turn Yes h = inr (h.0, inr (h.1, refl))

  one_drawn_verdict : AtMostOne FigureVerdict (IsDrawnVerdict lists points width height)
  one_drawn_verdict v w h g = from_drawn FromInward from_inward v w (drawn_in_turn v h) (drawn_in_turn w g)

  one_shaped_verdict : AtMostOne FigureVerdict (IsShapedVerdict lists points width height)
  one_shaped_verdict v w h g = from_drawn FromBent from_bent v w (shaped_in_turn v h) (shaped_in_turn w g)

one_fitting_verdict : (job : GridJob) (lists : Lists) (points : List Point) → AtMostOne FigureVerdict (IsFittingVerdict job lists points)
one_fitting_verdict Shift lists points = one_drawn_verdict lists points (grid_width Shift lists) (grid_height Shift lists)
one_fitting_verdict Schnyder lists points = one_drawn_verdict lists points (grid_width Schnyder lists) (grid_height Schnyder lists)
one_fitting_verdict Convex lists points = one_shaped_verdict lists points (grid_width Convex lists) (grid_height Convex lists)

module _ (job : GridJob) (lists : Lists) (points : List Point) where
  grid_in_turn : (verdict : FigureVerdict) → IsGridVerdict job lists points verdict → IsFirstOr FigureVerdict (Faults lists) (first_fault lists ≡ None) (IsFittingVerdict job lists points) verdict
  grid_in_turn (Refused fault) h = inl (refused lists fault h)
  grid_in_turn (Drawing v) h = inr h
  grid_in_turn (Inside v u) h = inr h
  grid_in_turn (ConvexFault v) h = inr h
  grid_in_turn (BarFault v) h = absurd h
  grid_in_turn (RectFault v) h = absurd h
  grid_in_turn (WitnessFault v) h = absurd h
  grid_in_turn Yes h = inr h

  one_grid_verdict : AtMostOne FigureVerdict (IsGridVerdict job lists points)
  one_grid_verdict v w h g = from_faults lists (IsFittingVerdict job lists points) (one_fitting_verdict job lists points) v w (grid_in_turn v h) (grid_in_turn w g)

-- a fault of one kind, or the kind's verdict yes
module _ {V : Type 0} (P : V → Type 0) (good : V) (to : V → FigureVerdict) (one : AtMostOne V P) where
  abbrev OfKind : FigureVerdict → Type 0
  OfKind verdict = (v : V) × (verdict ≡ to v) × P v × (v ≢ good)

  abbrev FromKind : FigureVerdict → Type 0
  FromKind = IsFirstOr FigureVerdict OfKind (P good) (λ verdict. verdict ≡ Yes)

  from_kind : AtMostOne FigureVerdict FromKind
  from_kind = one_or_others FigureVerdict OfKind (P good) (λ verdict. verdict ≡ Yes) (one_fault P good to one) (λ v f holds. f.3 (one f.0 good f.2 holds)) (only_one FigureVerdict Yes)

module _ (lists : Lists) (bars : BarFigure) where
  abbrev FromBars : FigureVerdict → Type 0
  FromBars = FromKind (IsBarVerdict lists bars (bars_width lists)) NoBarFault (λ v. BarFault v) (one_bar_verdict lists bars (bars_width lists))

  bars_in_turn : (verdict : FigureVerdict) → IsBarsVerdict lists bars verdict → IsFirstOr FigureVerdict (Faults lists) (first_fault lists ≡ None) FromBars verdict
  bars_in_turn (Refused fault) h = inl (refused lists fault h)
  bars_in_turn (Drawing v) h = absurd h
  bars_in_turn (Inside v u) h = absurd h
  bars_in_turn (ConvexFault v) h = absurd h
  bars_in_turn (BarFault v) h = inr (h.0, inl (v, refl, h.1.0, h.1.1))
  bars_in_turn (RectFault v) h = absurd h
  bars_in_turn (WitnessFault v) h = absurd h
  bars_in_turn Yes h = inr (h.0, inr (h.1, refl))

  one_bars_verdict : AtMostOne FigureVerdict (IsBarsVerdict lists bars)
  one_bars_verdict v w h g =
      from_faults lists FromBars (from_kind (IsBarVerdict lists bars (bars_width lists)) NoBarFault (λ v. BarFault v) (one_bar_verdict lists bars (bars_width lists))) v w (bars_in_turn v h) (bars_in_turn w g)

module _ (lists : Lists) (rects : RectFigure) where
  abbrev FromRects : FigureVerdict → Type 0
  FromRects = FromKind (IsRectVerdict lists rects) NoRectFault (λ v. RectFault v) (one_rect_verdict lists rects)

  rects_in_turn : (verdict : FigureVerdict) → IsRectsVerdict lists rects verdict → IsFirstOr FigureVerdict (Faults lists) (first_fault lists ≡ None) FromRects verdict
  rects_in_turn (Refused fault) h = inl (refused lists fault h)
  rects_in_turn (Drawing v) h = absurd h
  rects_in_turn (Inside v u) h = absurd h
  rects_in_turn (ConvexFault v) h = absurd h
  rects_in_turn (BarFault v) h = absurd h
  rects_in_turn (RectFault v) h = inr (h.0, inl (v, refl, h.1.0, h.1.1))
  rects_in_turn (WitnessFault v) h = absurd h
  rects_in_turn Yes h = inr (h.0, inr (h.1, refl))

  one_rects_verdict : AtMostOne FigureVerdict (IsRectsVerdict lists rects)
  one_rects_verdict v w h g =
      from_faults lists FromRects (from_kind (IsRectVerdict lists rects) NoRectFault (λ v. RectFault v) (one_rect_verdict lists rects)) v w (rects_in_turn v h) (rects_in_turn w g)

module _ (graph : EdgeGraph) (witness : Witness) where
  abbrev OfWitness : WitnessVerdict → Type 0
  OfWitness = IsVerdictOf graph witness.kind witness.branch witness.paths

  one_of_witness : AtMostOne WitnessVerdict OfWitness
  one_of_witness = one_witness_verdict graph witness.kind witness.branch witness.paths

  witness_in_turn : (verdict : FigureVerdict) → IsWitnessVerdict graph witness verdict → FromKind OfWitness NoWitnessFault (λ v. WitnessFault v) one_of_witness verdict
  witness_in_turn (Refused fault) h = absurd h
  witness_in_turn (Drawing v) h = absurd h
  witness_in_turn (Inside v u) h = absurd h
  witness_in_turn (ConvexFault v) h = absurd h
  witness_in_turn (BarFault v) h = absurd h
  witness_in_turn (RectFault v) h = absurd h
  witness_in_turn (WitnessFault v) h = inl (v, refl, h.0, h.1)
  witness_in_turn Yes h = inr (h, refl)

  one_verdict_of_witness : AtMostOne FigureVerdict (IsWitnessVerdict graph witness)
  one_verdict_of_witness v w h g = from_kind OfWitness NoWitnessFault (λ v. WitnessFault v) one_of_witness v w (witness_in_turn v h) (witness_in_turn w g)

pub one_figure_verdict : (figure : Figure) → AtMostOne FigureVerdict (IsFigureVerdict figure)
one_figure_verdict (Grid job lists points) = one_grid_verdict job lists points
one_figure_verdict (Bars lists bars) = one_bars_verdict lists bars
one_figure_verdict (Rects lists rects) = one_rects_verdict lists rects
one_figure_verdict (WitnessFigure graph witness) = one_verdict_of_witness graph witness
