-- The last removal: where the whole contour is of the face inside of the base, no other face is left, since the map is connected; and without it the base alone is left.
use Rattle.std.proofs.Common.{◌≡◌, ◌≢◌, ◌⊎◌, ℕ, suc, ◌+◌, ◌-◌, ◌<◌, ◌≤◌, Bool, true, false, refl, sym, ap, ap₂, ◌∙◌, subst, inl, inr, arith}
use Rattle.std.proofs.lemmas.Bool.{cases_Bool, cases_eq, true≢false}
use Rattle.map_lists.specs.Lists.{Lists}
use Rattle.map_theory.specs.Maps.{list_of, HasDart, IsSimpleMap, follows, component_count}
use Rattle.map_theory.proofs.DartLemmas.{HasDart-follows}
use Rattle.plane_peeling.specs.Restricted.{kept_but}
use Rattle.plane_peeling.proofs.RestrictedMaps.{kept_but-old, kept_but-new}
use Rattle.plane_peeling.proofs.Rings.{entries_closed}
use Rattle.plane_peeling.proofs.Counted.{marks_everywhere}
use Rattle.convex_peeling.specs.Polyhedral.{IsPolyhedral}
use Rattle.convex_peeling.specs.Contours.{face_of, Passes, IsContour, IsOpen}
use Rattle.convex_peeling.proofs.Contours.{IsEar}
use Rattle.convex_peeling.specs.Removals.{Removal, IsTakenOff}
use Rattle.convex_peeling.specs.FacePeelingLaws.{HasThree, AreOpen}
use Rattle.convex_peeling.proofs.Faces.{some_dart, face_of-step}
use Rattle.convex_peeling.proofs.Kept.{rim_at}
use Rattle.convex_peeling.proofs.Sections.{cases_is, leaves_once}
use Rattle.convex_peeling.proofs.Ears.{stretch_is_ear_law}
use Rattle.convex_peeling.proofs.ChainsOff.{between_open, removal, chain_off}
use Rattle.convex_peeling.proofs.TakenOff.{base_passes}
use Rattle.convex_peeling.proofs.Removed.{ends_as_before, begins_as_before}
use Rattle.convex_laws.proofs.Grown.{IsShore, off_contour}

-- a decided fact as a test
abbrev bool_of : (P : Type 0) → P ⊎ (¬ P) → Bool
bool_of P (inl p) = true
bool_of P (inr n) = false

bool_of-yes : (P : Type 0) (d : P ⊎ (¬ P)) → P → bool_of P d ≡ true
bool_of-yes P (inl p) q = refl
bool_of-yes P (inr n) q = absurd (n q)

yes-bool_of : (P : Type 0) (d : P ⊎ (¬ P)) → bool_of P d ≡ true → P
yes-bool_of P (inl p) e = p
yes-bool_of P (inr n) e = absurd (true≢false (sym e))

-- The last removal leaves the base alone, and no face.
pub record IsLast (lists : Lists) (alive : ℕ → Bool) (w : ℕ → ℕ) (r : ℕ) (o : Removal) : Type 0 where
  pub off : IsTakenOff lists alive w r o
  pub shore : IsShore lists o.alive o.contour o.places
  pub open_at : AreOpen lists alive w o
  pub none : (x y : ℕ) → HasDart lists x y → o.alive (face_of lists x y) ≢ true
  pub two : o.places ≡ 1

module _ (lists : Lists) (alive : ℕ → Bool) (w : ℕ → ℕ) (r : ℕ) (simple : IsSimpleMap lists) (one : component_count lists ≡ 1) (polyhedral : IsPolyhedral lists) (three : HasThree lists) (contour : IsContour lists alive w r) (all : (i : ℕ) → i < r → face_of lists (w (suc i)) (w i) ≡ face_of lists (w 0) (w r)) where
  abbrev face : ℕ
  face = face_of lists (w 1) (w 0)

  -- there are three places at least
  three_places : 2 ≤ r
  three_places = grind (arith, cases_eq, true≢false, ap₂, face_of)

  own : face ≡ face_of lists (w 0) (w r)
  own = let l = three_places in all 0 (omega arith)

  edge_face : (i : ℕ) → i ≤ r → face_of lists (w (suc i)) (w i) ≡ face
  edge_face i l = grind (arith, cases_eq, ap₂, face_of, own)

  base_dart : HasDart lists (w 0) (w r)
  base_dart = simple.both_ways (w r) (w 0) (subst (HasDart lists (w r)) contour.round (contour.edge r (omega arith)).dart)

  the_ear : (walk : ℕ → ℕ) × IsEar lists w r face 0 r walk 1
  the_ear =
      let l = three_places in
      let found = stretch_is_ear_law lists alive w r 0 simple polyhedral contour (omega arith) (λ a i b m n k p q. edge_face i (omega arith)) in
      let b = found.1 in
      let walk = found.2 in
      let many = found.3 in
      let ear = found.4 in
      let ends = base_passes lists alive w r simple polyhedral three contour in
      let low = ear.places 0 (omega arith) (subst (λ f. Passes lists f (w 0)) (sym own) ends.0) in
      let high = ear.places r (omega arith) (subst (λ f. Passes lists f (w r)) (sym own) ends.1) in
      let a_is : found.0 ≡ 0 = omega arith in
      let b_is : b ≡ r = omega arith in
      let first_dart = ear.darts 0 ear.some_step in
      let start : walk 0 ≡ w 0 = ear.first ∙ ap w a_is in
      let has : HasDart lists (w 0) (walk 1) = subst (λ v. HasDart lists v (walk 1)) start first_dart.0 in
      let at : walk 1 ≡ w r = leaves_once lists alive simple polyhedral (w 0) (walk 1) (w r) has base_dart (ap (λ v. face_of lists v (walk 1)) (sym start) ∙ (first_dart.1 ∙ own)) in
      let many_is : many ≡ 1 = ear.distinct many 1 (omega arith) ear.some_step (ear.last ∙ (ap w b_is ∙ sym at)) in
      (walk, subst (λ t. IsEar lists w r face 0 r walk t) many_is (subst (λ t. IsEar lists w r face 0 t walk many) b_is (subst (λ t. IsEar lists w r face t b walk many) a_is ear)))

  module _ (walk : ℕ → ℕ) (ear : IsEar lists w r face 0 r walk 1) where
    abbrev alive' : ℕ → Bool
    alive' = kept_but alive face

    -- the dart of the face that leaves a vertex of the contour
    leaves : (i : ℕ) → i ≤ r → (b : ℕ) × HasDart lists (w i) b × (face_of lists (w i) b ≡ face) × (alive (face_of lists b (w i)) ≡ false)
    leaves i l =
        elim (cases_eq i 0) [
          | inl e ↦
              let base = contour.edge r (omega arith) in
              (w r, subst (λ n. HasDart lists (w n) (w r)) (sym e) base_dart, ap (λ n. face_of lists (w n) (w r)) e ∙ sym own, ap (λ n. alive (face_of lists (w r) (w n))) e ∙ (ap (λ v. alive (face_of lists (w r) v)) (sym contour.round) ∙ base.outside))
          | inr some ↦
              let h : ℕ = i - 1 in
              let z : suc h ≡ i = omega arith in
              let rim = contour.edge h (omega arith) in
              (w h, subst (λ n. HasDart lists (w n) (w h)) z (simple.both_ways (w h) (w (suc h)) rim.dart), ap (λ n. face_of lists (w n) (w h)) (sym z) ∙ edge_face h (omega arith), ap (λ n. alive (face_of lists (w h) (w n))) (sym z) ∙ rim.outside)
        ]

    -- no face is left at a vertex of the contour
    none_on : (i x : ℕ) → i ≤ r → HasDart lists (w i) x → alive' (face_of lists (w i) x) ≢ true
    none_on i x l has =
        let v = w i in
        let P : ℕ → Type 0 = λ z. HasDart lists v z × (alive' (face_of lists v z) ≢ true) in
        let rim = contour.edge i l in
        let start : P (w (suc i)) = (rim.dart, λ t. true≢false (sym (kept_but-old alive face (face_of lists v (w (suc i))) t).0 ∙ rim.outside)) in
        let step : (z : ℕ) → P z → P (follows lists v z) = λ z p. (
          HasDart-follows lists v z p.0,
          λ t.
              let live : alive' (face_of lists z v) ≡ true = ap alive' (sym (face_of-step lists simple z v (simple.both_ways v z p.0))) ∙ t in
              let was = kept_but-old alive face (face_of lists z v) live in
              elim (cases_Bool (alive (face_of lists v z))) [
                | inr dead ↦
                    let at = rim_at lists alive simple w r contour i l z (record { dart = p.0; outside = dead; inside = was.0 }) in
                    was.1 (ap (λ u. face_of lists u v) at ∙ edge_face i l)
                | inl living ↦
                    elim (cases_eq (face_of lists v z) face) [
                      | inr ne ↦ p.1 (kept_but-new alive face (face_of lists v z) living ne)
                      | inl e ↦
                          let b = leaves i l in
                          let z_is : z ≡ b.0 = leaves_once lists alive simple polyhedral v z b.0 p.0 b.1 (e ∙ sym b.2) in
                          true≢false (sym was.0 ∙ (ap (λ u. alive (face_of lists u v)) z_is ∙ b.3))
                    ]
              ],
        ) in
        (entries_closed P (list_of lists v) (w (suc i)) x (simple.no_repeat v has.0) rim.dart.1 start step has.1).1

    abbrev HasLiving : ℕ → Type 0
    HasLiving v = (x : ℕ) × HasDart lists v x × (alive' (face_of lists v x) ≡ true)

    cases_HasLiving : (v : ℕ) → HasLiving v ⊎ (¬ HasLiving v)
    cases_HasLiving v =
        elim (some_dart lists simple v (λ x. alive' (face_of lists v x) ≡ true) (λ x has. cases_is (alive' (face_of lists v x)) true)) [
          | inl found ↦ inl found
          | inr none ↦ inr (λ h. none h.0 h.1 h.2)
        ]

    goes_over : (v u : ℕ) → HasDart lists v u → HasLiving v → HasLiving u
    goes_over v u has h =
        let x = h.0 in
        let off : (i : ℕ) → i ≤ r → w i ≢ v = λ i l e. none_on i x l (subst (λ t. HasDart lists t x) (sym e) h.1) (ap (λ t. alive' (face_of lists t x)) e ∙ h.2) in
        let was = kept_but-old alive face (face_of lists v x) h.2 in
        let both = off_contour lists alive w r simple contour.only contour.round v x u off h.1 was.0 has in
        let back = simple.both_ways v u has in
        let ne : face_of lists u v ≢ face = λ e. elim (ear.only u v back e) [
          | inl at ↦ (let m = at.2 in off at.0 (omega arith) (sym at.4))
          | inr at ↦ (let m = at.1 in let z : at.0 ≡ 0 = omega arith in off r (omega arith) (sym (at.3 ∙ (ap (λ t. walk (suc t)) z ∙ ear.last))))
        ] in
        (v, back, kept_but-new alive face (face_of lists u v) both.1 ne)

    -- so no face is left at all
    none_left : (x y : ℕ) → HasDart lists x y → alive' (face_of lists x y) ≢ true
    none_left x y has live =
        let mark : ℕ → Bool = λ v. bool_of (HasLiving v) (cases_HasLiving v) in
        let rim = contour.edge 0 (omega arith) in
        let there = marks_everywhere lists simple one mark (λ v u d m. bool_of-yes (HasLiving u) (cases_HasLiving u) (goes_over v u d (yes-bool_of (HasLiving v) (cases_HasLiving v) m))) x (w 0) has.0 rim.dart.0 (bool_of-yes (HasLiving x) (cases_HasLiving x) (y, has, live)) in
        let h = yes-bool_of (HasLiving (w 0)) (cases_HasLiving (w 0)) there in
        none_on 0 h.0 (omega arith) h.1 h.2

    pub last_of_ear : (o : Removal) × IsLast lists alive w r o
    last_of_ear =
        let l = three_places in
        let gone : ℕ = r - 1 in
        let o = removal lists alive w r face 0 r walk 1 gone simple contour ear (omega arith) (omega arith) in
        let off = chain_off lists alive w r face 0 r walk 1 gone simple contour ear (omega arith) (omega arith) in
        let two : r + 0 + 1 - r ≡ 1 = omega arith in
        let start = begins_as_before lists alive w r o off in
        let end = ends_as_before lists alive w r o off in
        let ends_apart : o.contour 0 ≢ o.contour 1 = λ e. (let z : 0 ≡ r = contour.distinct 0 r (omega arith) (omega arith) (sym start ∙ (e ∙ (ap o.contour (sym two) ∙ end))) in omega arith) in
        let distinct : (i j : ℕ) → i ≤ 1 → j ≤ 1 → o.contour i ≡ o.contour j → i ≡ j = λ i j m k e. elim (cases_eq i 0) [
          | inl z ↦ grind (arith, cases_eq)
          | inr nz ↦ grind (arith, cases_eq)
        ] in (
          o,
          record {
            off = off;
            shore = record {
              distinct = λ i j m k e. distinct i j (omega arith) (omega arith) e;
              only = λ x y rim. absurd (none_left y x (simple.both_ways x y rim.dart) rim.inside);
              edge = λ i m ne. absurd (ne two);
            };
            open_at = λ q m.
                let z : suc q ≡ suc (0 + q) = omega arith in
                subst (λ n. IsOpen lists alive (w n)) z (between_open lists alive w r simple contour polyhedral three q (omega arith) (edge_face q (omega arith) ∙ sym (edge_face (suc q) (omega arith))));
            none = none_left;
            two = two;
          },
        )

  pub last_goes : (o : Removal) × IsLast lists alive w r o
  last_goes = let e = the_ear in last_of_ear e.0 e.1
