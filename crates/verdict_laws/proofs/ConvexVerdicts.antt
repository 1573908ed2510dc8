-- One verdict on the bends of a drawing.
use Rattle.std.proofs.Common.{◌≡◌, inl, inr, refl, sym, subst, ap, ap₂, ◌∙◌, List, pos, ◌<ℤ◌, arith}
use Rattle.std.proofs.lemmas.Int.{ints}
use Rattle.map_lists.specs.Lists.{Lists}
use Rattle.map_lists.specs.declared.ids.VertexId.{VertexId}
use Rattle.map_theory.specs.Maps.{Dart}
use Rattle.pg_plane.specs.declared.grid_points.Point.{Point}
use Rattle.pg_plane.specs.Geometry.{area}
use Rattle.plane_drawings.specs.Drawing.{place}
use Rattle.vertex_rounds.specs.Least.{IsLeastTriple}
use Rattle.drawings.specs.Convex.{IsBent, HasOuterCorners, IsConvex}
use Rattle.convex_check.specs.Verdicts.{NoneBent, IsConvexVerdict}
use Rattle.convex_check.specs.declared.verdict.ConvexVerdict.{ConvexVerdict}
use Rattle.convex_check.specs.declared.verdict.ConvexVerdict.TheVariants.{Bent, OuterBent, Yes}
use Rattle.verdict_laws.specs.AtMostOne.{AtMostOne}
use Rattle.verdict_laws.proofs.Firsts.{IsFirstOr, one_or_others, only_one, triple_first, triple_second, triple_third, same_vertex}

module _ (lists : Lists) (points : List Point) (base : Dart) where
  abbrev Bends : ConvexVerdict → Type 0
  Bends verdict = (a : VertexId) × (b : VertexId) × (c : VertexId) × (verdict ≡ Bent a b c) × IsLeastTriple (IsBent lists points base) a.0 b.0 c.0

  -- no inner face bends, and the outer one is no triangle
  abbrev BendsOutside : ConvexVerdict → Type 0
  BendsOutside verdict = (verdict ≡ OuterBent) × ¬ HasOuterCorners lists points base

  abbrev FromOutside : ConvexVerdict → Type 0
  FromOutside = IsFirstOr ConvexVerdict BendsOutside (HasOuterCorners lists points base) (λ verdict. verdict ≡ Yes)

  abbrev FromBends : ConvexVerdict → Type 0
  FromBends = IsFirstOr ConvexVerdict Bends (NoneBent lists points base) FromOutside

  -- in a convex drawing no face bends
  none_bent : IsConvex lists points base → NoneBent lists points base
  none_bent h a b c bent =
      let turn = subst (λ k. area (place points a) (place points b) (place points k) <ℤ pos 0) (sym bent.third) bent.turn in
      omega (arith, h.inner a b bent.dart bent.other, ints)

  in_turn : (verdict : ConvexVerdict) → IsConvexVerdict lists points base verdict → FromBends verdict
  in_turn (Bent a b c) h = inl (a, b, c, refl, h)
  in_turn OuterBent h = inr (h.0, inl (refl, h.1))
  in_turn Yes h = inr (none_bent h, inr (h.outer, refl))

  one_bends : AtMostOne ConvexVerdict Bends
  one_bends v w f g = grind (arith, IsBent, same_vertex, triple_first, triple_second, triple_third, ap₂, Bent)

  from_outside : AtMostOne ConvexVerdict FromOutside
  from_outside = one_or_others ConvexVerdict BendsOutside (HasOuterCorners lists points base) (λ verdict. verdict ≡ Yes) (λ v w f g. f.0 ∙ sym g.0) (λ v f has. f.1 has) (only_one ConvexVerdict Yes)

  from_bends : AtMostOne ConvexVerdict FromBends
  from_bends = one_or_others ConvexVerdict Bends (NoneBent lists points base) FromOutside one_bends (λ v f none. none f.0.0 f.1.0 f.2.0 f.4.rest.rest.here) from_outside

  pub one_convex_verdict : AtMostOne ConvexVerdict (IsConvexVerdict lists points base)
  one_convex_verdict v w h g = from_bends v w (in_turn v h) (in_turn w g)
