-- One verdict on bars.
use Rattle.std.proofs.Common.{◌≡◌, inl, inr, refl, sym, ap, ap₂, ◌∙◌, ℤ}
use Rattle.map_lists.specs.Lists.{Lists}
use Rattle.map_lists.specs.declared.ids.VertexId.{VertexId}
use Rattle.map_lists.specs.declared.items.Ends.{Ends}
use Rattle.pg_plane.specs.declared.figures.BarFigure.{BarFigure}
use Rattle.vertex_rounds.specs.Least.{IsLeast, IsLeastPair, IsLeastTriple, IsLeastFour}
use Rattle.bar_check.specs.Faults.{HasBadHeight, HasBadBar, HasBadColumn, GoesThrough, DoOverlap, IsTurned}
use Rattle.bar_check.specs.Verdicts.{HasShape, HasHeights, AreBars, NoBadColumn, NoneThrough, NoneOverlap, KeepsTurns, IsBarVerdict}
use Rattle.bar_check.specs.declared.verdict.BarVerdict.{BarVerdict}
use Rattle.bar_check.specs.declared.verdict.BarVerdict.TheVariants.{BadShape, BadHeight, BadBar, BadColumn, Through, Overlap, Turned, Yes}
use Rattle.verdict_laws.specs.AtMostOne.{AtMostOne}
use Rattle.verdict_laws.proofs.Firsts.{IsFirstOr, one_or_others, only_one, least_is_one, pair_first, pair_second, triple_first, triple_second, triple_third, four_first, four_rest, same_vertex, same_ends}

module _ (lists : Lists) (fig : BarFigure) (width : ℤ) where
  -- the verdict is of a kind, with its least ids
  abbrev Misshapes : BarVerdict → Type 0
  Misshapes verdict = (verdict ≡ BadShape) × ¬ HasShape lists fig

  abbrev Heights : BarVerdict → Type 0
  Heights verdict = (v : VertexId) × (verdict ≡ BadHeight v) × IsLeast (HasBadHeight lists fig) v.0

  abbrev Bars : BarVerdict → Type 0
  Bars verdict = (v : VertexId) × (verdict ≡ BadBar v) × IsLeast (HasBadBar lists fig width) v.0

  abbrev Columns : BarVerdict → Type 0
  Columns verdict = (e : Ends) × (verdict ≡ BadColumn e) × IsLeastPair (HasBadColumn lists fig width) e.a.0 e.b.0

  abbrev Strikes : BarVerdict → Type 0
  Strikes verdict = (e : Ends) × (v : VertexId) × (verdict ≡ Through e v) × IsLeastTriple (GoesThrough lists fig) e.a.0 e.b.0 v.0

  abbrev Overlaps : BarVerdict → Type 0
  Overlaps verdict = (e : Ends) × (f : Ends) × (verdict ≡ Overlap e f) × IsLeastFour (DoOverlap lists fig) e.a.0 e.b.0 f.a.0 f.b.0

  abbrev Turns : BarVerdict → Type 0
  Turns verdict = (v : VertexId) × (verdict ≡ Turned v) × IsLeast (IsTurned lists fig) v.0

  -- the kinds in turn
  abbrev FromTurns : BarVerdict → Type 0
  FromTurns = IsFirstOr BarVerdict Turns (KeepsTurns lists fig) (λ verdict. verdict ≡ Yes)

  abbrev FromOverlaps : BarVerdict → Type 0
  FromOverlaps = IsFirstOr BarVerdict Overlaps (NoneOverlap lists fig) FromTurns

  abbrev FromStrikes : BarVerdict → Type 0
  FromStrikes = IsFirstOr BarVerdict Strikes (NoneThrough lists fig) FromOverlaps

  abbrev FromColumns : BarVerdict → Type 0
  FromColumns = IsFirstOr BarVerdict Columns (NoBadColumn lists fig width) FromStrikes

  abbrev FromBars : BarVerdict → Type 0
  FromBars = IsFirstOr BarVerdict Bars (AreBars lists fig width) FromColumns

  abbrev FromHeights : BarVerdict → Type 0
  FromHeights = IsFirstOr BarVerdict Heights (HasHeights lists fig) FromBars

  abbrev FromShape : BarVerdict → Type 0
  FromShape = IsFirstOr BarVerdict Misshapes (HasShape lists fig) FromHeights

  in_turn : (verdict : BarVerdict) → IsBarVerdict lists fig width verdict → FromShape verdict
  in_turn BadShape h = inl (refl, h)
  in_turn (BadHeight v) h = inr (h.0, inl (v, refl, h.1))
  in_turn (BadBar v) h = inr (h.0, inr (h.1, inl (v, refl, h.2)))
  in_turn (BadColumn e) h = inr (h.0, inr (h.1, inr (h.2, inl (e, refl, h.3))))
  in_turn (Through e v) h = inr (h.0, inr (h.1, inr (h.2, inr (h.3, inl (e, v, refl, h.4)))))
  in_turn (Overlap e f) h = inr (h.0, inr (h.1, inr (h.2, inr (h.3, inr (h.4, inl (e, f, refl, h.5))))))
  in_turn (Turned v) h = inr (h.0, inr (h.1, inr (h.2, inr (h.3, inr (h.4, inr (h.5, inl (v, refl, h.6)))))))
  in_turn Yes h =
      let clear : NoneThrough lists fig = λ a b v through. h.clear a b v through.edge through.vertex through.struck in
      let apart : NoneOverlap lists fig = λ a b c d both. h.apart a b c d both.first both.second both.order both.same both.meet in
      inr (h.columns, inr (h.heights, inr (h.bars, inr (λ a b bad. bad.bad (h.ends a b bad.edge), inr (clear, inr (apart, inr (h.turns, refl)))))))

  -- each kind once
  one_heights : AtMostOne BarVerdict Heights
  one_heights v w f g = f.1 ∙ (ap (λ u. BadHeight u) (same_vertex f.0 g.0 (least_is_one (HasBadHeight lists fig) f.0.0 g.0.0 f.2 g.2)) ∙ sym g.1)

  one_bars : AtMostOne BarVerdict Bars
  one_bars v w f g = f.1 ∙ (ap (λ u. BadBar u) (same_vertex f.0 g.0 (least_is_one (HasBadBar lists fig width) f.0.0 g.0.0 f.2 g.2)) ∙ sym g.1)

  one_columns : AtMostOne BarVerdict Columns
  one_columns v w f g =
      let P = HasBadColumn lists fig width in
      f.1 ∙ (ap (λ e. BadColumn e) (same_ends f.0 g.0 (pair_first P f.0.a.0 f.0.b.0 g.0.a.0 g.0.b.0 f.2 g.2) (pair_second P f.0.a.0 f.0.b.0 g.0.a.0 g.0.b.0 f.2 g.2)) ∙ sym g.1)

  one_strikes : AtMostOne BarVerdict Strikes
  one_strikes v w f g =
      let P = GoesThrough lists fig in
      let a = triple_first P f.0.a.0 f.0.b.0 f.1.0 g.0.a.0 g.0.b.0 g.1.0 f.3 g.3 in
      let b = triple_second P f.0.a.0 f.0.b.0 f.1.0 g.0.a.0 g.0.b.0 g.1.0 f.3 g.3 in
      let c = triple_third P f.0.a.0 f.0.b.0 f.1.0 g.0.a.0 g.0.b.0 g.1.0 f.3 g.3 in
      f.2 ∙ (ap₂ (λ e u. Through e u) (same_ends f.0 g.0 a b) (same_vertex f.1 g.1 c) ∙ sym g.2)

  one_overlaps : AtMostOne BarVerdict Overlaps
  one_overlaps v w f g =
      let P = DoOverlap lists fig in
      let a = four_first P f.0.a.0 f.0.b.0 f.1.a.0 f.1.b.0 g.0.a.0 g.0.b.0 g.1.a.0 g.1.b.0 f.3 g.3 in
      let rest = four_rest P f.0.a.0 f.0.b.0 f.1.a.0 f.1.b.0 g.0.a.0 g.0.b.0 g.1.a.0 g.1.b.0 f.3 g.3 in
      let b = triple_first (P f.0.a.0) f.0.b.0 f.1.a.0 f.1.b.0 g.0.b.0 g.1.a.0 g.1.b.0 f.3.rest rest in
      let c = triple_second (P f.0.a.0) f.0.b.0 f.1.a.0 f.1.b.0 g.0.b.0 g.1.a.0 g.1.b.0 f.3.rest rest in
      let d = triple_third (P f.0.a.0) f.0.b.0 f.1.a.0 f.1.b.0 g.0.b.0 g.1.a.0 g.1.b.0 f.3.rest rest in
      f.2 ∙ (ap₂ (λ d e. Overlap d e) (same_ends f.0 g.0 a b) (same_ends f.1 g.1 c d) ∙ sym g.2)

  one_turns : AtMostOne BarVerdict Turns
  one_turns v w f g = f.1 ∙ (ap (λ u. Turned u) (same_vertex f.0 g.0 (least_is_one (IsTurned lists fig) f.0.0 g.0.0 f.2 g.2)) ∙ sym g.1)

  -- so there is one
  from_turns : AtMostOne BarVerdict FromTurns
  from_turns = one_or_others BarVerdict Turns (KeepsTurns lists fig) (λ verdict. verdict ≡ Yes) one_turns (λ v f kept. f.2.here.turned (kept f.0.0 f.2.here.vertex f.2.here.two)) (only_one BarVerdict Yes)

  from_overlaps : AtMostOne BarVerdict FromOverlaps
  from_overlaps = one_or_others BarVerdict Overlaps (NoneOverlap lists fig) FromTurns one_overlaps (λ v f none. none f.0.a.0 f.0.b.0 f.1.a.0 f.1.b.0 f.3.rest.rest.rest.here) from_turns

  from_strikes : AtMostOne BarVerdict FromStrikes
  from_strikes = one_or_others BarVerdict Strikes (NoneThrough lists fig) FromOverlaps one_strikes (λ v f none. none f.0.a.0 f.0.b.0 f.1.0 f.3.rest.rest.here) from_overlaps

  from_columns : AtMostOne BarVerdict FromColumns
  from_columns = one_or_others BarVerdict Columns (NoBadColumn lists fig width) FromStrikes one_columns (λ v f none. none f.0.a.0 f.0.b.0 f.2.rest.here) from_strikes

  from_bars : AtMostOne BarVerdict FromBars
  from_bars = one_or_others BarVerdict Bars (AreBars lists fig width) FromColumns one_bars (λ v f all. f.2.here.bad (all f.0.0 f.2.here.vertex)) from_columns

  from_heights : AtMostOne BarVerdict FromHeights
  from_heights = one_or_others BarVerdict Heights (HasHeights lists fig) FromBars one_heights (λ v f all. f.2.here.bad (all f.0.0 f.2.here.vertex)) from_bars

  from_shape : AtMostOne BarVerdict FromShape
  from_shape = one_or_others BarVerdict Misshapes (HasShape lists fig) FromHeights (λ v w f g. f.0 ∙ sym g.0) (λ v f has. f.1 has) from_heights

  pub one_bar_verdict : AtMostOne BarVerdict (IsBarVerdict lists fig width)
  one_bar_verdict v w h g = from_shape v w (in_turn v h) (in_turn w g)
