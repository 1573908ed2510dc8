-- The map with the edges alone that have a face on some side that is left: its inner faces are those that are left, and its outer one goes along the contour.
use Rattle.std.proofs.Common.{◌≡◌, ◌≢◌, ◌||◌, ℕ, zero, suc, ◌<◌, ◌≤◌, Bool, true, false, refl, sym, ap, ◌∙◌, inl, inr, arith}
use Rattle.std.proofs.lemmas.Bool.{cases_Bool, or_left, or_right, or_cases, true≢false}
use Rattle.map_lists.specs.Lists.{Lists}
use Rattle.map_theory.specs.Maps.{list_of, HasDart, IsSimpleMap, IsPlane, follows}
use Rattle.map_theory.proofs.DartLemmas.{HasDart-follows}
use Rattle.plane_laws.specs.Kept.{with_kept, IsKeptMap}
use Rattle.plane_laws.proofs.KeptEdges.{kept_edges}
use Rattle.plane_peeling.proofs.OuterCycles.{entry_before}
use Rattle.convex_peeling.specs.Contours.{face_of, IsRim, IsContour}
use Rattle.convex_peeling.proofs.Faces.{face_of-step, along_face, before_once}

module _ (lists : Lists) (alive : ℕ → Bool) (simple : IsSimpleMap lists) where
  -- a face on the one side or on the other is left
  abbrev pub keeps : ℕ → ℕ → Bool
  keeps v u = alive (face_of lists v u) || alive (face_of lists u v)

  keeps-turned : (v u : ℕ) → keeps v u ≡ keeps u v
  keeps-turned v u = grind (arith, face_of)

  abbrev pub kept : Lists
  kept = with_kept keeps lists

  pub kept_map : IsKeptMap lists (with_kept keeps lists) keeps
  kept_map = kept_edges lists keeps keeps-turned simple

  pub kept_simple : IsSimpleMap kept
  kept_simple = kept_map.simple

  pub kept_plane : IsPlane lists → IsPlane kept
  kept_plane p = kept_map.plane p

  pub kept_old : (x y : ℕ) → HasDart kept x y → HasDart lists x y
  kept_old x y h = ((kept_map.darts x y).0 h).0

  pub kept_living : (x y : ℕ) → HasDart lists x y → alive (face_of lists x y) ≡ true → HasDart kept x y
  kept_living x y has t = (kept_map.darts x y).1 (has, or_left (alive (face_of lists x y)) (alive (face_of lists y x)) t)

  pub kept_behind : (x y : ℕ) → HasDart lists x y → alive (face_of lists y x) ≡ true → HasDart kept x y
  kept_behind x y has t = (kept_map.darts x y).1 (has, or_right (alive (face_of lists x y)) (alive (face_of lists y x)) t)

  -- a face that is left goes on as before
  pub follows_living : (x y : ℕ) → HasDart lists x y → alive (face_of lists x y) ≡ true → follows kept y x ≡ follows lists y x
  follows_living x y has t =
      let z = follows lists y x in
      kept_map.follows_same y x (kept_behind y x (simple.both_ways x y has) t) (or_left (alive (face_of lists y z)) (alive (face_of lists z y)) (ap alive (face_of-step lists simple x y has) ∙ t))

  -- so it is a face of the rest
  pub living-kept : (x y u v : ℕ) → HasDart lists x y → HasDart lists u v → alive (face_of lists x y) ≡ true → face_of lists x y ≡ face_of lists u v → face_of kept x y ≡ face_of kept u v
  living-kept x y u v has has' t e =
      let P : ℕ → ℕ → Type 0 = λ p q. (alive (face_of lists p q) ≡ true) × (face_of kept x y ≡ face_of kept p q) in
      (along_face lists simple P (λ p q d h. (
        ap alive (face_of-step lists simple p q d) ∙ h.0,
        h.1 ∙ (sym (face_of-step kept kept_simple p q (kept_living p q d h.0)) ∙ ap (λ z. face_of kept q z) (follows_living p q d h.0)),
      )) x y u v has has' e (t, refl)).1

  pub kept-living : (x y u v : ℕ) → HasDart kept x y → HasDart kept u v → alive (face_of lists x y) ≡ true → face_of kept x y ≡ face_of kept u v → face_of lists x y ≡ face_of lists u v
  kept-living x y u v has has' t e =
      let P : ℕ → ℕ → Type 0 = λ p q. (alive (face_of lists p q) ≡ true) × (face_of lists x y ≡ face_of lists p q) in
      (along_face kept kept_simple P (λ p q d h. (
        ap (λ z. alive (face_of lists q z)) (follows_living p q (kept_old p q d) h.0) ∙ (ap alive (face_of-step lists simple p q (kept_old p q d)) ∙ h.0),
        h.1 ∙ (sym (face_of-step lists simple p q (kept_old p q d)) ∙ sym (ap (λ z. face_of lists q z) (follows_living p q (kept_old p q d) h.0))),
      )) x y u v has has' e (t, refl)).1

  -- the other faces of the rest are of darts whose own face is taken off
  pub kept-dead : (x y u v : ℕ) → HasDart kept x y → HasDart kept u v → alive (face_of lists x y) ≡ true → alive (face_of lists u v) ≡ false → face_of kept x y ≢ face_of kept u v
  kept-dead x y u v has has' t f e = true≢false (sym t ∙ (ap alive (kept-living x y u v has has' t e) ∙ f))

  -- what is kept, and not on a face that is left, is of the rim
  pub IsRim-kept : (x y : ℕ) → HasDart kept x y → alive (face_of lists x y) ≡ false → IsRim lists alive x y
  IsRim-kept x y has f = grind (arith, kept_old, or_cases, face_of, kept_map, true≢false)

  pub HasDart-rim : (x y : ℕ) → IsRim lists alive x y → HasDart kept x y
  HasDart-rim x y rim = kept_behind x y rim.dart rim.inside

  -- the dart before one along its face
  pub dart_before : (y z : ℕ) → HasDart lists y z → (p : ℕ) × HasDart lists p y × (follows lists y p ≡ z)
  dart_before y z has =
      let b = entry_before (list_of lists y) z (simple.no_repeat y has.0) has.1 in
      (b.0, simple.both_ways y b.0 (has.0, b.1), b.2)

  -- along the rim the rest goes on along the rim
  pub rim_step : (x y : ℕ) → IsRim lists alive x y → IsRim lists alive y (follows kept y x)
  rim_step x y rim =
      let z = follows kept y x in
      let has = HasDart-follows kept y x (kept_simple.both_ways x y (HasDart-rim x y rim)) in
      IsRim-kept y z has (elim (cases_Bool (alive (face_of lists y z))) [
        | inr f ↦ f
        | inl t ↦
            let p = dart_before y z (kept_old y z has) in
            let t' : alive (face_of lists p.0 y) ≡ true = ap alive (sym (face_of-step lists simple p.0 y p.1) ∙ ap (face_of lists y) p.2) ∙ t in
            let at = before_once kept kept_simple x y p.0 (HasDart-rim x y rim) (kept_living p.0 y p.1 t') (sym (follows_living p.0 y p.1 t' ∙ p.2)) in
            absurd (true≢false (sym t' ∙ (ap (λ q. alive (face_of lists q y)) (sym at) ∙ rim.outside)))
      ])

  module _ (w : ℕ → ℕ) (r : ℕ) (contour : IsContour lists alive w r) where
    -- a dart of the rim from a place goes to the next
    pub rim_at : (i : ℕ) → i ≤ r → (y : ℕ) → IsRim lists alive (w i) y → y ≡ w (suc i)
    rim_at i l y rim =
        let o = contour.only (w i) y rim in
        sym o.3 ∙ ap (λ n. w (suc n)) (contour.distinct o.0 i o.1 l o.2)

    -- the outer face of the rest goes along the contour
    pub kept_turn : (i : ℕ) → i < r → follows kept (w (suc i)) (w i) ≡ w (suc (suc i))
    kept_turn i l = rim_at (suc i) (omega arith) (follows kept (w (suc i)) (w i)) (rim_step (w i) (w (suc i)) (contour.edge i (omega arith)))

    pub outer_one : (i : ℕ) → i ≤ r → face_of kept (w i) (w (suc i)) ≡ face_of kept (w 0) (w 1)
    outer_one zero l = refl
    outer_one (suc i) l =
        let has = HasDart-rim (w i) (w (suc i)) (contour.edge i (omega arith)) in
        ap (face_of kept (w (suc i))) (sym (kept_turn i (omega arith))) ∙ (face_of-step kept kept_simple (w i) (w (suc i)) has ∙ outer_one i (omega arith))
