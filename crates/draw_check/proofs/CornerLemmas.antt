-- Corners that are drawn well at the least vertex of each face: the faces of a triangulation are.
use Rattle.std.proofs.Common.{◌≡◌, ◌≢◌, ◌⊎◌, ℕ, ◌+◌, ◌-◌, ◌<◌, ◌==◌, Bool, false, List, length, get_or, refl, sym, ap, ap₂, subst, ◌∙◌, inl, inr, arith, eqb-true}
use Rattle.std.proofs.lemmas.Bool.{cases_Bool, cases_lt, true≢false}
use Rattle.std.proofs.lemmas.Bool.Decides.{nat_tests}
use Rattle.std.proofs.lemmas.List.Elements.{Contains-get_or}
use Rattle.map_lists.specs.Lists.{Lists}
use Rattle.map_theory.specs.Maps.{Dart, HasDart, list_of, place_of, follows}
use Rattle.map_theory.specs.Paths.{SameFace}
use Rattle.map_theory.proofs.DartLemmas.{HasDart-face_step, get_or-place_of, place_of-lt-length, entry_after-place, place_of-entry_after, place_of-get_or, place_after}
use Rattle.half_edges.specs.Map.{first_dart}
use Rattle.plane_laws.specs.Triangulations.{IsTriangulation}
use Rattle.pg_plane.specs.declared.grid_points.Point.{Point}
use Rattle.plane_drawings.specs.Drawing.{IsCounterclockwise}
use Rattle.draw_check.specs.Corners.{IsCornerWell, IsRoundWell}
use Rattle.draw_check.specs.FaceVerdicts.{IsDrawnWell}
use Rattle.drawings.proofs.FaceSteps.{thrice, on_base, same_itself}
use Rattle.draw_check.proofs.FaceLemmas.{counterclockwise_from}

-- the entry after one of a list comes at the next place, or it is the first
after_is : (us : List ℕ) (z k n : ℕ) → k ≡ place_of z us → n ≡ length us → k < n → ((k + 1 < n) × (place_after n k ≡ k + 1)) ⊎ ((k ≡ n - 1) × (place_after n k ≡ 0))
after_is us z k n at long l = elim (cases_lt (k + 1) n) [
  | inl m ↦ inl (m, grind (arith, nat_tests))
  | inr m ↦ inr (omega arith, grind (arith, nat_tests))
]

module _ (lists : Lists) (points : List Point) (c : IsTriangulation lists) (rounds : (v : ℕ) → v < length lists → IsRoundWell lists points v) where
  abbrev base : Dart
  base = first_dart lists 0

  -- the corner between an entry of a's list and the one after it
  corner : (a z : ℕ) → HasDart lists a z → ((place_of (follows lists a z) (list_of lists a) ≢ 0) × IsCornerWell points false a (follows lists a z) z) ⊎ ((follows lists a z ≡ get_or (list_of lists a) 0 0) × IsCornerWell points (a == 0) a (follows lists a z) z)
  corner a z dart =
      let us = list_of lists a in
      let k = place_of z us in
      let l = place_of-lt-length z us dart.1 in
      let here = get_or-place_of z us 0 l in
      let next = entry_after-place z us 0 l in
      elim (after_is us z k (length us) refl refl l) [
        | inl m ↦
            let w = (rounds a dart.0).others (k + 1) m.0 (omega arith) in
            let same : k + 1 - 1 ≡ k = omega arith in
            let is : follows lists a z ≡ get_or us (k + 1) 0 = next ∙ ap (λ (i : ℕ). get_or us i 0) m.1 in
            let before : get_or us (k + 1 - 1) 0 ≡ z = ap (λ (i : ℕ). get_or us i 0) same ∙ here in
            inl (
              λ e. (let p = sym e ∙ ((place_of-entry_after z us (c.simple.no_repeat a dart.0) dart.1) ∙ m.1) in omega arith),
              subst (λ (x : ℕ). IsCornerWell points false a x z) (sym is) (subst (λ (x : ℕ). IsCornerWell points false a (get_or us (k + 1) 0) x) before w),
            )
        | inr m ↦
            let w = (rounds a dart.0).first in
            let is : follows lists a z ≡ get_or us 0 0 = next ∙ ap (λ (i : ℕ). get_or us i 0) m.1 in
            let before : get_or us (length us - 1) 0 ≡ z = ap (λ (i : ℕ). get_or us i 0) (sym m.0) ∙ here in
            inr (is, subst (λ (x : ℕ). IsCornerWell points (a == 0) a x z) (sym is) (subst (λ (x : ℕ). IsCornerWell points (a == 0) a (get_or us 0 0) x) before w))
      ]

  -- vertex 0 has a dart
  pub has_base : HasDart lists base.0 base.1
  has_base =
      (c.simple.some_vertex, Contains-get_or (list_of lists 0) 0 0 ((rounds 0 c.simple.some_vertex).some))

  -- the least vertex of the base's face is 0
  base_least : (a b : ℕ) → HasDart lists a b → a < b → a < follows lists b a → SameFace lists base (a, b) → (a, b) ≡ base
  base_least a b dart l l' same =
      let back = thrice lists c base has_base in
      let next : follows lists (follows lists base.1 0) base.1 ≡ 0 = ap (λ (d : Dart). d.0) back in
      elim (on_base lists c base has_base (a, b) dart same) [
        | inl e ↦ e
        | inr o ↦ grind (arith, ap₂, follows, Dart)
      ]

  -- each face is drawn well from its least vertex
  well : (a b : ℕ) → HasDart lists a b → a < b → a < follows lists b a → IsDrawnWell lists points base a b (follows lists b a)
  well a b dart l l' =
      let w = follows lists b a in
      let d2 = HasDart-face_step lists (b, w) c.simple (HasDart-face_step lists (a, b) c.simple dart) in
      let back = thrice lists c (a, b) dart in
      let next : follows lists w b ≡ a = ap (λ (d : Dart). d.0) back in
      let last : follows lists a w ≡ b = ap (λ (x : ℕ). follows lists x w) (sym next) ∙ ap (λ (d : Dart). d.1) back in
      let us = list_of lists a in
      elim (corner a w (c.simple.both_ways w a (subst (λ (x : ℕ). HasDart lists w x) next d2))) [
        | inl h ↦ grind (arith, place_of, IsCornerWell, base_least, Dart, get_or, list_of, place_of-get_or)
        | inr h ↦
            let good = subst (λ (x : ℕ). IsCornerWell points (a == 0) a x w) last h.1 in
            elim (cases_Bool (a == 0)) [
              | inl on ↦
                  let zero : a ≡ 0 = eqb-true a 0 on in
                  let e : (a, b) ≡ base = ap₂ (λ (x y : ℕ). (x, y)) zero ((sym last ∙ h.0) ∙ ap (λ (x : ℕ). get_or (list_of lists x) 0 0) zero) in
                  record {
                    inner = λ off. absurd (off (subst (λ (d : Dart). SameFace lists base d) (sym e) (same_itself lists c base)));
                    outer = λ same. (subst (λ (o : Bool). IsCornerWell points o a b w) on good l l');
                  }
              | inr off ↦ grind (arith, IsCornerWell, true≢false, Dart, base_least)
            ]
      ]

  -- so all faces are drawn well
  pub corners_counterclockwise : IsCounterclockwise lists points (first_dart lists 0)
  corners_counterclockwise =
      counterclockwise_from lists c points base
      (λ a b z h. h.wrong (subst (λ (x : ℕ). IsDrawnWell lists points base a b x) h.third (well a b h.dart h.least.0 (subst (λ (x : ℕ). a < x) (sym h.third) h.least.1)))) has_base
