-- An ear as a removal: the vertices strictly within its stretch go.
use Rattle.std.proofs.Common.{◌≡◌, ℕ, suc, ◌+◌, ◌-◌, ◌<◌, ◌≤◌, Bool, true, false, refl, sym, ap, ◌∙◌, subst, inl, inr, arith}
use Rattle.std.proofs.lemmas.Bool.{cases_Bool, cases_eq, true≢false}
use Rattle.classes.specs.Classes.{count_below, label}
use Rattle.classes.proofs.Classes.{label-lt}
use Rattle.classes.proofs.Orbits.{orbits_of, IsLabels-orbits_of, length-orbits_of}
use Rattle.classes.proofs.Bound.{after}
use Rattle.map_lists.specs.Lists.{Lists}
use Rattle.map_theory.specs.Maps.{list_of, HasDart, IsSimpleMap, follows, dart_number, dart_count}
use Rattle.map_theory.proofs.DartLemmas.{HasDart-follows, two_entries, dart_number-lt}
use Rattle.map_theory.proofs.DartPermutations.{rotation, twin, orbits-face_images}
use Rattle.plane_laws.proofs.EdgeBound.{hw}
use Rattle.plane_peeling.specs.Restricted.{kept_but}
use Rattle.plane_peeling.proofs.RestrictedMaps.{kept_but-old, kept_but-new, kept_but-itself, count-kept_but}
use Rattle.convex_peeling.specs.Polyhedral.{IsPolyhedral}
use Rattle.convex_peeling.specs.Contours.{face_of, Passes, IsContour, IsOpen, IsStretch}
use Rattle.convex_peeling.proofs.Contours.{IsEar, spliced}
use Rattle.convex_peeling.specs.Removals.{Removal, IsTakenOff, IsOnRemoved}
use Rattle.convex_peeling.specs.FacePeelingLaws.{HasThree}
use Rattle.convex_peeling.proofs.Faces.{face_of-step}
use Rattle.convex_peeling.proofs.Kept.{rim_at}
use Rattle.convex_peeling.proofs.Sections.{leaves_once}
use Rattle.convex_peeling.proofs.EarsOff.{spliced-low, spliced-mid, spliced-high}
use Rattle.std.specs.Prelude.{zero, ◌≢◌}

-- two places that bound a face
abbrev pub two_cuts : ℕ → ℕ → ℕ → ℕ
two_cuts p q zero = p
two_cuts p q (suc i) = q

-- The vertex at place i + 1 is removable next: each face there that is left is one stretch, of one edge beside the vertex at most, and none is the face inside of the base.
pub record IsRemovableNext (lists : Lists) (alive : ℕ → Bool) (w : ℕ → ℕ) (r i : ℕ) : Type 0 where
  pub within : suc i < r
  pub stretches : (face : ℕ) → alive face ≡ true → Passes lists face (w (suc i)) → IsStretch lists w r face
  pub right : suc (suc i) < r → face_of lists (w (suc (suc (suc i)))) (w (suc (suc i))) ≢ face_of lists (w (suc (suc i))) (w (suc i))
  pub left : (h : ℕ) → suc h ≡ i → face_of lists (w (suc h)) (w h) ≢ face_of lists (w (suc i)) (w i)
  pub base : ¬ Passes lists (face_of lists (w 0) (w r)) (w (suc i))

-- the label of a face is a number of darts
pub face_of-lt : (lists : Lists) → IsSimpleMap lists → (x y : ℕ) → HasDart lists x y → face_of lists x y < dart_count lists
face_of-lt lists simple x y has =
    let h = after (rotation lists) (twin lists) in
    let k = dart_count lists in
    let n = length-orbits_of h k in
    let l = dart_number-lt lists x y has in
    let e : face_of lists x y ≡ label (orbits_of h k) (dart_number lists (x, y)) = ap (λ o. label o (dart_number lists (x, y))) (orbits-face_images lists simple) in
    omega (arith, e, label-lt (orbits_of h k) (IsLabels-orbits_of h k (hw lists simple).within) (dart_number lists (x, y)) (omega arith), n)

-- the faces without one are one fewer
pub count-without : (lists : Lists) (alive : ℕ → Bool) → IsSimpleMap lists → (x y : ℕ) → HasDart lists x y → alive (face_of lists x y) ≡ true → count_below alive (dart_count lists) ≡ count_below (kept_but alive (face_of lists x y)) (dart_count lists) + 1
count-without lists alive simple x y has live = count-kept_but alive (face_of lists x y) (dart_count lists) (face_of-lt lists simple x y has) live

module _ (lists : Lists) (alive : ℕ → Bool) (w : ℕ → ℕ) (r : ℕ) (simple : IsSimpleMap lists) (contour : IsContour lists alive w r) where
  -- a face with an edge of the contour passes both ends
  pub edge_passes : (i : ℕ) → i ≤ r → Passes lists (face_of lists (w (suc i)) (w i)) (w i) × Passes lists (face_of lists (w (suc i)) (w i)) (w (suc i))
  edge_passes i l =
      let dart = (contour.edge i l).dart in
      let back = simple.both_ways (w i) (w (suc i)) dart in (
        (follows lists (w i) (w (suc i)), HasDart-follows lists (w i) (w (suc i)) dart, face_of-step lists simple (w (suc i)) (w i) back),
        (w i, back, refl),
      )

  -- a vertex between two edges of one face, with three neighbours or more, has an edge that is taken off
  pub between_open : IsPolyhedral lists → HasThree lists → (i : ℕ) → suc i ≤ r → face_of lists (w (suc i)) (w i) ≡ face_of lists (w (suc (suc i))) (w (suc i)) → IsOpen lists alive (w (suc i))
  between_open polyhedral three i l same =
      let v = w (suc i) in
      let p = w i in
      let q = w (suc (suc i)) in
      let one = contour.edge i (omega arith) in
      let has_p = simple.both_ways p v one.dart in
      let has_q = (contour.edge (suc i) l).dart in
      let from_q = simple.both_ways v q has_q in
      let turn : follows lists v q ≡ p = leaves_once lists alive simple polyhedral v (follows lists v q) p (HasDart-follows lists v q has_q) has_p (face_of-step lists simple q v from_q ∙ sym same) in
      let z = follows lists v p in
      let has_z = HasDart-follows lists v p has_p in
      let dead : alive (face_of lists v z) ≡ false = ap alive (face_of-step lists simple p v one.dart) ∙ one.outside in (
        z,
        has_z,
        dead,
        elim (cases_Bool (alive (face_of lists z v))) [
          | inr f ↦ f
          | inl t ↦
              let at : z ≡ q = rim_at lists alive simple w r contour (suc i) l z (record { dart = has_z; outside = dead; inside = t }) in
              absurd (omega (arith, two_entries (list_of lists v) p q (simple.no_repeat v has_p.0) has_p.1 at turn, three v has_p.0))
        ],
      )

module _ (lists : Lists) (alive : ℕ → Bool) (w : ℕ → ℕ) (r face a b : ℕ) (walk : ℕ → ℕ) (many gone : ℕ) (simple : IsSimpleMap lists) (contour : IsContour lists alive w r) (ear : IsEar lists w r face a b walk many) (ends : b ≡ suc (a + gone)) (some : 0 < gone) where
  abbrev pub removal : Removal
  removal = record { alive = kept_but alive face; contour = spliced w a b walk many; places = r + a + many - b; first = a; last = a + many; vertices = gone; faces = 1; cut = two_cuts a (a + many); made = λ i. face }

  on_removed : (x y : ℕ) → HasDart lists x y → face_of lists x y ≡ face → IsOnRemoved w removal 0 x y
  on_removed x y has on =
      elim (ear.only x y has on) [
        | inr at ↦
            let t = at.0 in
            let l = at.1 in
            let z : suc (a + t) ≡ a + suc t = omega arith in
            inl (a + t, omega arith, omega arith, spliced-mid lists w r face a b walk many ear t (omega arith) ∙ sym at.2, ap (spliced w a b walk many) z ∙ (spliced-mid lists w r face a b walk many ear (suc t) l ∙ sym at.3))
        | inl at ↦
            elim (cases_eq at.0 a) [
              | inl e ↦ inr (inr (inr (at.3 ∙ ap (λ j. w (suc j)) e, at.4 ∙ (ap w e ∙ sym (spliced-low lists w r face a b walk many ear a (omega arith))))))
              | inr ne ↦ elim (cases_eq (suc at.0) b) [
                | inl e ↦
                    let z : at.0 ≡ a + gone = omega arith in
                    inr (inl (at.3 ∙ (ap w e ∙ (sym ear.last ∙ sym (spliced-mid lists w r face a b walk many ear many (omega arith)))), at.4 ∙ ap w z))
                | inr more ↦
                    let q : ℕ = at.0 - a in
                    let z : at.0 ≡ a + q = omega arith in
                    inr (inr (inl (q, omega arith, omega arith, at.3 ∙ ap (λ j. w (suc j)) z, at.4 ∙ ap w z)))
              ]
            ]
      ]

  pub chain_off : IsTakenOff lists alive w r removal
  chain_off =
      let within = ear.within in
      let at = contour.edge a (omega arith) in
      let back = simple.both_ways (w a) (w (suc a)) at.dart in
      let own = ear.edges a (omega arith) ear.some_edge in
      record {
        some_face = omega arith;
        some_vertex = some;
        single = inr refl;
        begin = refl;
        end = refl;
        rises = λ i l. let z : i ≡ 0 = omega arith in subst (λ t. two_cuts a (a + many) t < two_cuts a (a + many) (suc t)) (sym z) (omega arith);
        within = omega arith;
        before = λ i l. spliced-low lists w r face a b walk many ear i l;
        behind = λ q. spliced-high lists w r face a b walk many ear q ∙ (let z : b + q ≡ a + gone + 1 + q = omega arith in ap w z);
        width = omega arith;
        fresh = λ p i l m n e.
            let t : ℕ = p - a in
            let z : p ≡ a + t = omega arith in
            ear.inside t i (omega arith) (omega arith) n (sym (ap (spliced w a b walk many) z ∙ spliced-mid lists w r face a b walk many ear t (omega arith)) ∙ e);
        living = λ i l. (ap alive (sym own) ∙ at.inside);
        dead = λ i l. kept_but-itself alive face;
        still = λ x t. (kept_but-old alive face x t).0;
        gone = λ x t f. (0, omega arith, elim (cases_eq x face) [ inl e ↦ e | inr ne ↦ absurd (true≢false (sym (kept_but-new alive face x t ne) ∙ f)) ]);
        darts = λ i x y l has on. let z : i ≡ 0 = omega arith in subst (λ t. IsOnRemoved w removal t x y) (sym z) (on_removed x y has on);
        fewer = subst (λ f. count_below alive (dart_count lists) ≡ count_below (kept_but alive f) (dart_count lists) + 1) own (count-without lists alive simple (w (suc a)) (w a) back at.inside);
      }
