-- One verdict on a drawing in a grid, and one on its outer face.
use Rattle.std.proofs.Common.{◌≡◌, ℕ, inl, inr, refl, sym, ap, ap₂, ◌∙◌, List, ℤ, arith}
use Rattle.std.proofs.lemmas.Int.{ints}
use Rattle.map_lists.specs.Lists.{Lists}
use Rattle.map_lists.specs.declared.ids.VertexId.{VertexId}
use Rattle.map_lists.specs.declared.items.Ends.{Ends}
use Rattle.map_theory.specs.Maps.{Dart, component_count}
use Rattle.pg_plane.specs.declared.grid_points.Point.{Point}
use Rattle.plane_drawings.specs.Drawing.{KeepsRotations}
use Rattle.vertex_rounds.specs.Least.{IsLeast, IsLeastPair, IsLeastTriple, IsLeastFour}
use Rattle.draw_check.specs.Faults.{LeavesGrid, ShareAPlace, LiesOnEdge, EdgesCross, IsTurned}
use Rattle.draw_check.specs.Verdicts.{IsVerdict, NoneShareAPlace, NoneOnEdge, NoneCross}
use Rattle.drawings.specs.Valid.{AllInGrid}
use Rattle.draw_check.specs.Outer.{IsInside, IsOuterVerdict}
use Rattle.drawings.specs.OuterFaces.{HasOuterFace}
use Rattle.draw_check.specs.declared.verdict.Verdict.{Verdict}
use Rattle.draw_check.specs.declared.verdict.Verdict.TheVariants.{OutOfGrid, SamePlace, OnEdge, Cross, Turned, Yes}
use Rattle.draw_check.specs.declared.verdict.OuterVerdict.{OuterVerdict}
use Rattle.draw_check.specs.declared.verdict.OuterVerdict.TheVariants as outer
use Rattle.verdict_laws.specs.AtMostOne.{AtMostOne}
use Rattle.verdict_laws.proofs.Firsts.{IsFirstOr, one_or_others, only_one, least_is_one, pair_first, pair_second, triple_first, triple_second, triple_third, four_first, four_rest, same_vertex, same_ends}

module _ (lists : Lists) (points : List Point) (width height : ℤ) where
  -- the verdict is of a kind, with its least ids
  abbrev Leaves : Verdict → Type 0
  Leaves verdict = (v : VertexId) × (verdict ≡ OutOfGrid v) × IsLeast (LeavesGrid lists points width height) v.0

  abbrev Share : Verdict → Type 0
  Share verdict = (u : VertexId) × (v : VertexId) × (verdict ≡ SamePlace u v) × IsLeastPair (ShareAPlace lists points) u.0 v.0

  abbrev Lies : Verdict → Type 0
  Lies verdict = (v : VertexId) × (e : Ends) × (verdict ≡ OnEdge v e) × IsLeastTriple (LiesOnEdge lists points) v.0 e.a.0 e.b.0

  abbrev Crosses : Verdict → Type 0
  Crosses verdict = (e : Ends) × (f : Ends) × (verdict ≡ Cross e f) × IsLeastFour (EdgesCross lists points) e.a.0 e.b.0 f.a.0 f.b.0

  abbrev Turns : Verdict → Type 0
  Turns verdict = (v : VertexId) × (verdict ≡ Turned v) × IsLeast (IsTurned lists points) v.0

  -- the kinds in turn
  abbrev FromTurns : Verdict → Type 0
  FromTurns = IsFirstOr Verdict Turns (KeepsRotations lists points) (λ verdict. verdict ≡ Yes)

  abbrev FromCrosses : Verdict → Type 0
  FromCrosses = IsFirstOr Verdict Crosses (NoneCross lists points) FromTurns

  abbrev FromLies : Verdict → Type 0
  FromLies = IsFirstOr Verdict Lies (NoneOnEdge lists points) FromCrosses

  abbrev FromShare : Verdict → Type 0
  FromShare = IsFirstOr Verdict Share (NoneShareAPlace lists points) FromLies

  abbrev FromLeaves : Verdict → Type 0
  FromLeaves = IsFirstOr Verdict Leaves (AllInGrid lists points width height) FromShare

  in_turn : (verdict : Verdict) → IsVerdict lists points width height verdict → FromLeaves verdict
  in_turn (OutOfGrid v) h = inl (v, refl, h)
  in_turn (SamePlace u v) h = inr (h.0, inl (u, v, refl, h.1))
  in_turn (OnEdge v e) h = inr (h.0, inr (h.1, inl (v, e, refl, h.2)))
  in_turn (Cross e f) h = inr (h.0, inr (h.1, inr (h.2, inl (e, f, refl, h.3))))
  in_turn (Turned v) h = inr (h.0, inr (h.1, inr (h.2, inr (h.3, inl (v, refl, h.4)))))
  in_turn Yes h = inr (h.0, inr (h.1, inr (h.2, inr (h.3, inr (h.4, refl)))))

  -- each kind once
  one_leaves : AtMostOne Verdict Leaves
  one_leaves v w f g = f.1 ∙ (ap (λ u. OutOfGrid u) (same_vertex f.0 g.0 (least_is_one (LeavesGrid lists points width height) f.0.0 g.0.0 f.2 g.2)) ∙ sym g.1)

  one_share : AtMostOne Verdict Share
  one_share v w f g =
      let P = ShareAPlace lists points in
      f.2 ∙ (ap₂ (λ u w. SamePlace u w) (same_vertex f.0 g.0 (pair_first P f.0.0 f.1.0 g.0.0 g.1.0 f.3 g.3)) (same_vertex f.1 g.1 (pair_second P f.0.0 f.1.0 g.0.0 g.1.0 f.3 g.3)) ∙ sym g.2)

  one_lies : AtMostOne Verdict Lies
  one_lies v w f g =
      let P = LiesOnEdge lists points in
      let a = triple_first P f.0.0 f.1.a.0 f.1.b.0 g.0.0 g.1.a.0 g.1.b.0 f.3 g.3 in
      let b = triple_second P f.0.0 f.1.a.0 f.1.b.0 g.0.0 g.1.a.0 g.1.b.0 f.3 g.3 in
      let c = triple_third P f.0.0 f.1.a.0 f.1.b.0 g.0.0 g.1.a.0 g.1.b.0 f.3 g.3 in
      f.2 ∙ (ap₂ (λ u e. OnEdge u e) (same_vertex f.0 g.0 a) (same_ends f.1 g.1 b c) ∙ sym g.2)

  one_crosses : AtMostOne Verdict Crosses
  one_crosses v w f g =
      let P = EdgesCross lists points in
      let a = four_first P f.0.a.0 f.0.b.0 f.1.a.0 f.1.b.0 g.0.a.0 g.0.b.0 g.1.a.0 g.1.b.0 f.3 g.3 in
      let rest = four_rest P f.0.a.0 f.0.b.0 f.1.a.0 f.1.b.0 g.0.a.0 g.0.b.0 g.1.a.0 g.1.b.0 f.3 g.3 in
      let b = triple_first (P f.0.a.0) f.0.b.0 f.1.a.0 f.1.b.0 g.0.b.0 g.1.a.0 g.1.b.0 f.3.rest rest in
      let c = triple_second (P f.0.a.0) f.0.b.0 f.1.a.0 f.1.b.0 g.0.b.0 g.1.a.0 g.1.b.0 f.3.rest rest in
      let d = triple_third (P f.0.a.0) f.0.b.0 f.1.a.0 f.1.b.0 g.0.b.0 g.1.a.0 g.1.b.0 f.3.rest rest in
      f.2 ∙ (ap₂ (λ d e. Cross d e) (same_ends f.0 g.0 a b) (same_ends f.1 g.1 c d) ∙ sym g.2)

  one_turns : AtMostOne Verdict Turns
  one_turns v w f g = f.1 ∙ (ap (λ u. Turned u) (same_vertex f.0 g.0 (least_is_one (IsTurned lists points) f.0.0 g.0.0 f.2 g.2)) ∙ sym g.1)

  -- so there is one
  from_turns : AtMostOne Verdict FromTurns
  from_turns = one_or_others Verdict Turns (KeepsRotations lists points) (λ verdict. verdict ≡ Yes) one_turns (λ v f kept. f.2.here.turned (kept f.0.0 f.2.here.vertex f.2.here.two)) (only_one Verdict Yes)

  from_crosses : AtMostOne Verdict FromCrosses
  from_crosses = one_or_others Verdict Crosses (NoneCross lists points) FromTurns one_crosses (λ v f none. none f.0.a.0 f.0.b.0 f.1.a.0 f.1.b.0 f.3.rest.rest.rest.here) from_turns

  from_lies : AtMostOne Verdict FromLies
  from_lies = one_or_others Verdict Lies (NoneOnEdge lists points) FromCrosses one_lies (λ v f none. none f.0.0 f.1.a.0 f.1.b.0 f.3.rest.rest.here) from_crosses

  from_share : AtMostOne Verdict FromShare
  from_share = one_or_others Verdict Share (NoneShareAPlace lists points) FromLies one_share (λ v f none. none f.0.0 f.1.0 f.3.rest.here) from_lies

  from_leaves : AtMostOne Verdict FromLeaves
  from_leaves = one_or_others Verdict Leaves (AllInGrid lists points width height) FromShare one_leaves (λ v f all. f.2.here.outside (all f.0.0 f.2.here.vertex)) from_share

  pub one_verdict : AtMostOne Verdict (IsVerdict lists points width height)
  one_verdict v w h g = from_leaves v w (in_turn v h) (in_turn w g)

module _ (lists : Lists) (points : List Point) (base : Dart) where
  abbrev Inside : OuterVerdict → Type 0
  Inside verdict = (v : VertexId) × (u : VertexId) × (verdict ≡ outer.Inside v u) × (component_count lists ≡ 1) × IsLeastPair (IsInside lists points base) v.0 u.0

  abbrev FromInside : OuterVerdict → Type 0
  FromInside = IsFirstOr OuterVerdict Inside (HasOuterFace lists points base) (λ verdict. verdict ≡ outer.Yes)

  outer_in_turn : (verdict : OuterVerdict) → IsOuterVerdict lists points base verdict → FromInside verdict
  outer_in_turn (outer.Inside v u) h = inl (v, u, refl, h.0, h.1)
  outer_in_turn outer.Yes h = inr (h, refl)

  -- no face inside has a positive area
  pub inside_is_not_outer : (v u : ℕ) → component_count lists ≡ 1 → IsInside lists points base v u → HasOuterFace lists points base → ⊥
  inside_is_not_outer v u one h face =
      omega (arith, face one v u h.dart h.other, ints)

  one_inside : AtMostOne OuterVerdict Inside
  one_inside v w f g =
      let P = IsInside lists points base in
      f.2 ∙ (ap₂ (λ a b. outer.Inside a b) (same_vertex f.0 g.0 (pair_first P f.0.0 f.1.0 g.0.0 g.1.0 f.4 g.4)) (same_vertex f.1 g.1 (pair_second P f.0.0 f.1.0 g.0.0 g.1.0 f.4 g.4)) ∙ sym g.2)

  from_inside : AtMostOne OuterVerdict FromInside
  from_inside = one_or_others OuterVerdict Inside (HasOuterFace lists points base) (λ verdict. verdict ≡ outer.Yes) one_inside (λ v f face. inside_is_not_outer f.0.0 f.1.0 f.3 f.4.rest.here face) (only_one OuterVerdict outer.Yes)

  pub one_outer_verdict : AtMostOne OuterVerdict (IsOuterVerdict lists points base)
  one_outer_verdict v w h g = from_inside v w (outer_in_turn v h) (outer_in_turn w g)
