-- Lists break one condition first.
use Rattle.std.proofs.Common.{◌≡◌, ◌≢◌, ◌≤◌, ◌<◌, ◌⊎◌, ℕ, inl, inr, refl, sym, ap, ap₂, ◌∙◌, length, Some, None, arith}
use Rattle.std.specs.Prelude.{unwrap_or}
use Rattle.map_lists.specs.Lists.{Lists}
use Rattle.map_lists.specs.declared.ids.VertexId.{VertexId}
use Rattle.map_theory.specs.Maps.{component_count}
use Rattle.graph_search.specs.Cuts.{IsLeastCutVertex, IsLeastPair}
use Rattle.vertex_rounds.specs.Least as ids
use Rattle.refusals.specs.Conditions.{first_refusal}
use Rattle.refusals.specs.declared.conditions.Refusal.{Refusal}
use Rattle.refusals.specs.declared.conditions.Refusal.TheVariants.{OutOfRange, Loop, Repeated, OneSided, Small, Genus, NotConnected, CutVertex, SeparatingPair, OuterNotQuad, NotTriangle, SeparatingTriangle, NoInner}
use Rattle.conn_parts.specs.BiconnectedMaps.{IsBiconnectedMap, BreaksFirst}
use Rattle.conn_parts.specs.Laws.{BiconnectedBreakNothing}
use Rattle.convex_class.specs.Convexity.{BreaksConvex}
use Rattle.drawings.specs.Duals.{HasFrame}
use Rattle.rect_class.specs.RectMaps.{HasLargeFace, HasTriangles, IsSeparating, NoneSeparating}
use Rattle.rect_class.specs.Refusals.{BreaksRect}
use Rattle.verdict_laws.specs.AtMostOne.{AtMostOne}
use Rattle.verdict_laws.proofs.Firsts.{IsFirstOr, one_or_others, pair_first, pair_second, triple_first, triple_second, triple_third, same_vertex}

-- the least cut vertex, and the least separating pair
cut_is_one : (lists : Lists) (v w : ℕ) → IsLeastCutVertex lists v → IsLeastCutVertex lists w → v ≡ w
cut_is_one lists v w h g = omega (arith, h.least w g.is_cut, g.least v h.is_cut)

pair_is_one : (lists : Lists) (u v x y : ℕ) → IsLeastPair lists u v → IsLeastPair lists x y → (u ≡ x) × (v ≡ y)
pair_is_one lists u v x y h g = by (h.least x y g.is_pair) (g.least u v h.is_pair)
  where
    by : (u < x) ⊎ ((u ≡ x) × (v ≤ y)) → (x < u) ⊎ ((x ≡ u) × (y ≤ v)) → (u ≡ x) × (v ≡ y)
    by (inl l) (inl m) = absurd (omega (arith, l, m))
    by (inl l) (inr m) = absurd (omega (arith, l, m.0))
    by (inr l) (inl m) = absurd (omega (arith, l.0, m))
    by (inr l) (inr m) = (l.0, omega (arith, l.1, m.1))

module _ (least : ℕ) (lists : Lists) where
  -- one of the conditions on all maps, or none of these and then one of the others
  abbrev Early : Refusal → Type 0
  Early refusal = first_refusal least lists ≡ Some refusal

  abbrev Parted : Refusal → Type 0
  Parted refusal = (refusal ≡ NotConnected) × (component_count lists ≢ 1)

  abbrev Cut : Refusal → Type 0
  Cut refusal = (v : VertexId) × (refusal ≡ CutVertex v) × IsLeastCutVertex lists v.0

  abbrev FromParted : Refusal → Type 0
  FromParted = IsFirstOr Refusal Parted (component_count lists ≡ 1) Cut

  abbrev FromEarly : Refusal → Type 0
  FromEarly = IsFirstOr Refusal Early (first_refusal least lists ≡ None) FromParted

  in_turn : (refusal : Refusal) → BreaksFirst least lists refusal → FromEarly refusal
  in_turn x0 h = grind (arith, OutOfRange, Loop, Repeated, OneSided, Small, Genus, NotConnected, CutVertex, SeparatingPair, OuterNotQuad, NotTriangle, SeparatingTriangle)

  one_early : AtMostOne Refusal Early
  one_early v w f g = ap (λ o. unwrap_or o v) (sym f ∙ g)

  one_cut : AtMostOne Refusal Cut
  one_cut v w f g = f.1 ∙ (ap (λ u. CutVertex u) (same_vertex f.0 g.0 (cut_is_one lists f.0.0 g.0.0 f.2 g.2)) ∙ sym g.1)

  from_parted : AtMostOne Refusal FromParted
  from_parted = one_or_others Refusal Parted (component_count lists ≡ 1) Cut (λ v w f g. f.0 ∙ sym g.0) (λ v f one. f.1 one) one_cut

  from_early : AtMostOne Refusal FromEarly
  from_early = one_or_others Refusal Early (first_refusal least lists ≡ None) FromParted one_early (λ v f none. let h : Some v ≡ None = sym f ∙ none in cc) from_parted

  pub one_break : AtMostOne Refusal (BreaksFirst least lists)
  one_break v w h g = from_early v w (in_turn v h) (in_turn w g)

-- Behind these come conditions on biconnected maps.
module _ (nothing : BiconnectedBreakNothing) (least : ℕ) (lists : Lists) (some : 0 < length lists) (Later : Refusal → Type 0) where
  abbrev FromFirst : Refusal → Type 0
  FromFirst = IsFirstOr Refusal (BreaksFirst least lists) (IsBiconnectedMap least lists) Later

  from_first : AtMostOne Refusal Later → AtMostOne Refusal FromFirst
  from_first later = one_or_others Refusal (BreaksFirst least lists) (IsBiconnectedMap least lists) Later (one_break least lists) (λ v f good. nothing least lists v some good f) later

module _ (nothing : BiconnectedBreakNothing) (lists : Lists) (some : 0 < length lists) where
  abbrev Pair : Refusal → Type 0
  Pair refusal = (u : VertexId) × (v : VertexId) × (refusal ≡ SeparatingPair u v) × IsLeastPair lists u.0 v.0

  convex_in_turn : (refusal : Refusal) → BreaksConvex lists refusal → FromFirst nothing 4 lists some Pair refusal
  convex_in_turn x0 h = grind (arith, OutOfRange, Loop, Repeated, OneSided, Small, Genus, NotConnected, CutVertex, SeparatingPair, OuterNotQuad, NotTriangle, SeparatingTriangle)

  one_pair : AtMostOne Refusal Pair
  one_pair v w f g =
      let same = pair_is_one lists f.0.0 f.1.0 g.0.0 g.1.0 f.3 g.3 in
      f.2 ∙ (ap₂ (λ a b. SeparatingPair a b) (same_vertex f.0 g.0 same.0) (same_vertex f.1 g.1 same.1) ∙ sym g.2)

  pub one_convex_break : AtMostOne Refusal (BreaksConvex lists)
  one_convex_break v w h g = from_first nothing 4 lists some Pair one_pair v w (convex_in_turn v h) (convex_in_turn w g)

  -- the conditions of rectangular duals in turn
  abbrev Frameless : Refusal → Type 0
  Frameless refusal = (refusal ≡ OuterNotQuad) × ¬ HasFrame lists

  abbrev Large : Refusal → Type 0
  Large refusal = (v : VertexId) × (u : VertexId) × (refusal ≡ NotTriangle v u) × ids.IsLeastPair (HasLargeFace lists) v.0 u.0

  abbrev Separates : Refusal → Type 0
  Separates refusal = (a : VertexId) × (b : VertexId) × (c : VertexId) × (refusal ≡ SeparatingTriangle a b c) × ids.IsLeastTriple (IsSeparating lists) a.0 b.0 c.0

  abbrev Empty : Refusal → Type 0
  Empty refusal = refusal ≡ NoInner

  abbrev FromSeparates : Refusal → Type 0
  FromSeparates = IsFirstOr Refusal Separates (NoneSeparating lists) Empty

  abbrev FromLarge : Refusal → Type 0
  FromLarge = IsFirstOr Refusal Large (HasTriangles lists) FromSeparates

  abbrev FromFrameless : Refusal → Type 0
  FromFrameless = IsFirstOr Refusal Frameless (HasFrame lists) FromLarge

  rect_in_turn : (refusal : Refusal) → BreaksRect lists refusal → FromFirst nothing 3 lists some FromFrameless refusal
  rect_in_turn x0 h = grind (arith, OutOfRange, Loop, Repeated, OneSided, Small, Genus, NotConnected, CutVertex, SeparatingPair, OuterNotQuad, NotTriangle, SeparatingTriangle)

  one_large : AtMostOne Refusal Large
  one_large v w f g =
      let P = HasLargeFace lists in
      f.2 ∙ (ap₂ (λ a b. NotTriangle a b) (same_vertex f.0 g.0 (pair_first P f.0.0 f.1.0 g.0.0 g.1.0 f.3 g.3)) (same_vertex f.1 g.1 (pair_second P f.0.0 f.1.0 g.0.0 g.1.0 f.3 g.3)) ∙ sym g.2)

  one_separates : AtMostOne Refusal Separates
  one_separates v w f g = grind (arith, IsSeparating, same_vertex, triple_first, triple_second, triple_third, ap₂, SeparatingTriangle)

  from_separates : AtMostOne Refusal FromSeparates
  from_separates = one_or_others Refusal Separates (NoneSeparating lists) Empty one_separates (λ v f none. none f.0.0 f.1.0 f.2.0 f.4.rest.rest.here) (λ v w f g. f ∙ sym g)

  from_large : AtMostOne Refusal FromLarge
  from_large = one_or_others Refusal Large (HasTriangles lists) FromSeparates one_large (λ v f all. f.3.rest.here.large (all f.0.0 f.1.0 f.3.rest.here.dart f.3.rest.here.inner)) from_separates

  from_frameless : AtMostOne Refusal FromFrameless
  from_frameless = one_or_others Refusal Frameless (HasFrame lists) FromLarge (λ v w f g. f.0 ∙ sym g.0) (λ v f has. f.1 has) from_large

  pub one_rect_break : AtMostOne Refusal (BreaksRect lists)
  one_rect_break v w h g = from_first nothing 3 lists some FromFrameless from_frameless v w (rect_in_turn v h) (rect_in_turn w g)
