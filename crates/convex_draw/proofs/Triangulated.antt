-- A triangulation has no cut vertex and no separating pair: neighbours one behind the other are adjacent, and a face at a vertex has just two of them.
use Rattle.std.proofs.Common.{◌≡◌, ◌≢◌, ◌⊎◌, ℕ, ◌≤◌, length, refl, sym, ap, ap₂, ◌∙◌, inl, inr, arith}
use Rattle.map_lists.specs.Lists.{Lists}
use Rattle.map_theory.specs.Maps.{Dart, HasDart, IsSimpleMap, follows}
use Rattle.map_theory.specs.Paths.{SameFace}
use Rattle.plane_laws.specs.Laws.{IsTriangle}
use Rattle.plane_laws.specs.Triangulations.{IsTriangulation}
use Rattle.plane_laws.proofs.Triangles.{edge_bound_met}
use Rattle.graph_search.specs.Cuts.{IsSeparatingPair}
use Rattle.convex_peeling.proofs.Meetings.{AreMetTwice}
use Rattle.convex_peeling.specs.PolyhedralMapsLaws.{IsPlaneUncut}
use Rattle.convex_peeling.specs.Polyhedral.{IsThreeConnected}
use Rattle.convex_peeling.proofs.Faces.{along_face, labels-SameFace}
use Rattle.convex_peeling.proofs.Uncut.{uncut}
use Rattle.convex_peeling.proofs.PolyhedralLemmas.{pairs_meet_twice}

module _ (lists : Lists) (simple : IsSimpleMap lists) (triangles : (u v : ℕ) → HasDart lists u v → IsTriangle lists (u, v)) where
  -- from a vertex on the edges lead back
  back : (u a : ℕ) → HasDart lists u a → follows lists (follows lists a u) a ≡ u
  back u a has = ap (λ (d : Dart). d.0) (triangles u a has)

  -- along a triangle from the dart (u, a)
  IsOn : ℕ → ℕ → ℕ → ℕ → Type 0
  IsOn u a p q = ((p ≡ u) × (q ≡ a)) ⊎ (((p ≡ a) × (q ≡ follows lists a u)) ⊎ ((p ≡ follows lists a u) × (q ≡ u)))

  -- a face at u passes just the two neighbours of u, and from the second one it leads to u
  passed_first : (u a v b : ℕ) → u ≢ v → b ≢ u → HasDart lists u a → HasDart lists v b → SameFace lists (u, a) (v, b) → v ≡ a
  unfolding IsOn
  passed_first u a v b ne other has has' same =
      let c = follows lists a u in
      let closed : (p q : ℕ) → HasDart lists p q → IsOn u a p q → IsOn u a q (follows lists q p) = λ p q d on.
      elim on [
        | inl h ↦ inr (inl (h.1, ap₂ (λ x y. follows lists x y) h.1 h.0))
        | inr rest ↦ elim rest [
          | inl h ↦ inr (inr (h.1, ap₂ (λ x y. follows lists x y) h.1 h.0 ∙ back u a has))
          | inr h ↦ inl (h.1, ap₂ (λ x y. follows lists x y) h.1 h.0 ∙ (ap (λ z. follows lists z c) (sym (back u a has)) ∙ ap (λ (d : Dart). d.1) (triangles u a has)))
        ]
      ] in
      elim (along_face lists simple (IsOn u a) closed u a v b has has' (labels-SameFace lists u a v b same) (inl (refl, refl))) [
        | inl h ↦ absurd (ne (sym h.0))
        | inr rest ↦ elim rest [ inl h ↦ h.0 | inr h ↦ absurd (other h.1) ]
      ]

  pub no_pair : IsPlaneUncut lists → (u v : ℕ) → ¬ IsSeparatingPair lists u v
  no_pair plane u v pair =
      let two : u ≢ v = λ e. absurd (omega arith) in
      let found = (pairs_meet_twice lists u v plane pair.0 pair.1).0 pair in
      let a = found.0 in
      let b = found.1 in
      let c = found.2 in
      let e = found.3 in
      let on : AreMetTwice lists u v a b c e = found.4 in
      let one = passed_first u a v b two on.others.0 on.from_u.0 on.from_v.0 on.one in
      let other = passed_first u c v e two on.others.1 on.from_u.1 on.from_v.1 on.other in
      on.two (sym one ∙ other)

-- with four vertices it is three-connected
pub triangulation_is_three_connected : (lists : Lists) → IsTriangulation lists → 4 ≤ length lists → IsThreeConnected lists
triangulation_is_three_connected lists t four =
    let met = (edge_bound_met lists t.simple t.plane t.some).0 t.edges in
    let whole = uncut lists t.simple met.1 in
    record {
      simple = t.simple;
      some = four;
      connected = met.0;
      uncut = whole;
      unpaired = no_pair lists t.simple met.1 (record { simple = t.simple; plane = t.plane; uncut = whole });
    }
