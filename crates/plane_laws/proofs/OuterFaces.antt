-- A leaf and an ear of an outer face, in the words of maps.
use Rattle.std.proofs.Common.{◌≡◌, ◌≢◌, ℕ, ◌<◌, Bool, true, eqb, length, refl, sym, ap, ◌∙◌, subst, inl, inr, arith, eqb-true, eq-eqb, ne_eqb}
use Rattle.std.proofs.lemmas.Bool.{cases_Bool, false_from_ne_true, true≢false}
use Rattle.classes.specs.Classes.{label}
use Rattle.classes.proofs.Counting.{count_below_into}
use Rattle.classes.proofs.Classes.{Together}
use Rattle.classes.proofs.Orbits.{orbits_of, length-orbits_of, marks_back}
use Rattle.classes.proofs.Bound.{after}
use Rattle.map_lists.specs.Lists.{Lists}
use Rattle.map_theory.specs.Maps.{HasDart, IsSimpleMap, IsPlane, follows, dart_number, dart_count, edge_count}
use Rattle.map_theory.proofs.DartLemmas.{dart_number-lt, get_or-dart_number, HasDart-follows}
use Rattle.map_theory.proofs.DartPermutations.{dart_of, tail_of, rotation, twin, IsPermuting-rotation, IsPairing-twin, dart_of-number, dart_of-twin, same_orbit, balances_map, two_m}
use Rattle.plane_laws.proofs.DartPaths.{same_face, face_together, same_face-step, dart_of-face_step, tail_of-number}
use Rattle.plane_laws.proofs.EdgeBound.{hw}
use Rattle.plane_laws.specs.OuterFaces.{IsOuterFace, IsOuterEar, OuterEar, IsOuterLeaf, OuterLeaf}
use Rattle.plane_laws.proofs.OuterChords.{IsOuter}
use Rattle.plane_laws.proofs.OuterLeaves.{some_leaf}

module _ (lists : Lists) (next : ℕ → ℕ) (simple : IsSimpleMap lists) (face : IsOuterFace lists next) where
  abbrev f : ℕ → ℕ
  f = rotation lists

  abbrev g : ℕ → ℕ
  g = twin lists

  abbrev k : ℕ
  k = dart_count lists

  -- the darts of the outer face, by numbers
  abbrev pub outer : ℕ → Bool
  outer i = eqb (dart_of lists i).1 (next (dart_of lists i).0)

  outer_is : (i : ℕ) → outer i ≡ true → (dart_of lists i).1 ≡ next (dart_of lists i).0
  outer_is i t = eqb-true (dart_of lists i).1 (next (dart_of lists i).0) t

  outer_dart : (i : ℕ) → i < k → outer i ≡ true → HasDart lists (tail_of lists i) (next (tail_of lists i))
  outer_dart i l t = subst (HasDart lists (tail_of lists i)) (outer_is i t) (dart_of-number lists simple i l).is_dart

  pub outer-number : (v : ℕ) → HasDart lists v (next v) → outer (dart_number lists (v, next v)) ≡ true
  outer-number v has = ap (λ d. eqb d.1 (next d.0)) (get_or-dart_number lists v (next v) (0, 0) has) ∙ eq-eqb (next v) (next v) refl

  number_is : (i : ℕ) → i < k → outer i ≡ true → dart_number lists (tail_of lists i, next (tail_of lists i)) ≡ i
  number_is i l t = ap (λ x. dart_number lists (tail_of lists i, x)) (sym (outer_is i t)) ∙ (dart_of-number lists simple i l).number

  -- each step along the face stays on it
  forward : (i : ℕ) → i < k → outer i ≡ true → outer (after f g i) ≡ true
  forward i l t =
      let d = dart_of lists i in
      let at = outer_is i t in
      let turn : follows lists d.1 d.0 ≡ next d.1 = ap (λ x. follows lists x d.0) at ∙ (face.turns d.0 (outer_dart i l t) ∙ ap next (sym at)) in
      ap (λ c. eqb c.1 (next c.0)) (dart_of-face_step lists simple i l) ∙ eq-eqb (follows lists d.1 d.0) (next d.1) turn

  pub IsOuter-face : IsOuter f g k outer
  IsOuter-face =
      record {
        kept = λ i l. elim (cases_Bool (outer i)) [
          | inl t ↦ t ∙ sym (forward i l t)
          | inr t ↦ t ∙ sym (false_from_ne_true (outer (after f g i)) (λ s. true≢false (sym (marks_back (after f g) k (hw lists simple) outer forward i l s) ∙ t)))
        ];
        one = λ i j l m t t'.
            let L = label (orbits_of (after f g) k) in
            let u = tail_of lists i in
            let v = tail_of lists j in
            ap L (sym (number_is i l t)) ∙ (face_together lists simple (u, next u) (v, next v) (face.one u v (outer_dart i l t) (outer_dart j m t')) ∙ ap L (number_is j m t'));
        each =
            let O = orbits_of f k in
            let n = length-orbits_of f k in
            let leaves = λ (i : ℕ) (l : i < k). leaving i l in
            count_below_into (λ i. dart_number lists (tail_of lists i, next (tail_of lists i))) (λ i. eqb (label O i) i) outer (length O) k
            (λ i l t. let h = leaves i (omega arith) in (dart_number-lt lists (tail_of lists i) (next (tail_of lists i)) h, outer-number (tail_of lists i) h))
            (λ i j l m t t' e.
            let li : i < k = omega arith in
            let lj : j < k = omega arith in
            let u = tail_of lists i in
            let v = tail_of lists j in
            let tails : u ≡ v = sym (tail_of-number lists u (next u) (leaves i li)) ∙ (ap (tail_of lists) e ∙ tail_of-number lists v (next v) (leaves j lj)) in
            sym (eqb-true (label O i) i t) ∙ (same_orbit lists simple i j li lj tails ∙ eqb-true (label O j) j t'));
        single = λ i l t.
            let d = dart_of lists i in
            ap (λ c. eqb c.1 (next c.0)) (dart_of-twin lists simple i l) ∙ ne_eqb d.0 (next d.1) (λ q. face.single d.0 (outer_dart i l t) (sym (q ∙ ap next (outer_is i t))));
      }
    where
      leaving : (i : ℕ) → i < k → HasDart lists (tail_of lists i) (next (tail_of lists i))
      leaving i l = face.darts (tail_of lists i) (dart_of lists i).1 (dart_of-number lists simple i l).is_dart

  pub leaf_here : IsPlane lists → (p : ℕ) → HasDart lists p (next p) → (u : ℕ) × (w : ℕ) × IsOuterLeaf lists next p u w
  leaf_here plane p has =
      let b = dart_number lists (p, next p) in
      let balance = balances_map lists simple 0 (omega (arith, plane)) in
      let pair = IsPairing-twin lists simple in
      let found = some_leaf f g k (edge_count lists) b outer (two_m lists simple) (IsPermuting-rotation lists simple) pair balance IsOuter-face (dart_number-lt lists p (next p) has) (outer-number p has) in
      let i = found.0 in
      let d = dart_of lists i in
      let own = dart_of-number lists simple i found.1.within in (
        d.0,
        d.1,
        record {
          dart = own.is_dart;
          inner = λ e. true≢false (sym (eq-eqb d.1 (next d.0) e) ∙ found.1.inner);
          others = λ x y at same ne.
              let j = dart_number lists (x, y) in
              let l = dart_number-lt lists x y at in
              let dart_j : dart_of lists j ≡ (x, y) = get_or-dart_number lists x y (0, 0) at in
              let together : Together (orbits_of (after f g) k) j i = sym (ap (label (orbits_of (after f g) k)) (sym own.number) ∙ face_together lists simple d (x, y) same) in
              let apart : j ≢ i = λ e. let q : (x, y) ≡ d = sym dart_j ∙ ap (dart_of lists) e in ne (ap (λ c. c.0) q, ap (λ c. c.1) q) in
              let other = found.1.others j l together apart in
              let twin_j : dart_of lists (g j) ≡ (y, x) = dart_of-twin lists simple j l ∙ ap (λ c. (c.1, c.0)) dart_j in (
                sym (sym (ap (λ c. c.1) twin_j) ∙ (outer_is (g j) other.0 ∙ ap (λ c. next c.0) twin_j)),
                λ e.
                    other.1 (sym (number_is (g j) (pair.within j l) other.0) ∙ ap (λ z. dart_number lists (z, next z)) (ap (λ c. c.0) twin_j ∙ e)),
              );
        },
      )

  -- the two darts after a leaf make an ear
  pub ear_here : IsPlane lists → (p : ℕ) → HasDart lists p (next p) → (v : ℕ) × IsOuterEar lists next p v
  ear_here plane p has =
      let found = leaf_here plane p has in
      let u = found.0 in
      let w = found.1 in
      let leaf = found.2 in
      let y = follows lists w u in
      let dart_y = HasDart-follows lists w u (simple.both_ways u w leaf.dart) in
      let back = simple.both_ways w y dart_y in
      let face_y = same_face-step lists simple (u, w) (u, w) leaf.dart (same_face lists simple (u, w) (u, w) refl) in
      let face_z = same_face-step lists simple (u, w) (w, y) dart_y face_y in
      let one = leaf.others w y dart_y face_y (λ e. simple.no_loop u w leaf.dart e.0) in
      let two = leaf.others y (follows lists y w) (HasDart-follows lists y w back) face_z (λ e. leaf.inner (sym (ap next (sym e.0) ∙ one.0))) in (
        y,
        record {
          dart = subst (HasDart lists y) (sym one.0) back;
          comes = ap (λ x. next (follows lists y x)) one.0 ∙ two.0;
          not_from = one.1;
          not_after = λ e. two.1 (ap (follows lists y) (sym one.0) ∙ e);
        },
      )

-- THE LAW: an ear beside each dart of such an outer face
pub outer_ear_law : OuterEar
outer_ear_law lists next p simple plane face has = ear_here lists next simple face plane p has

-- THE LAW: a leaf away from each dart of such an outer face
pub outer_leaf_law : OuterLeaf
outer_leaf_law lists next p simple plane face has = leaf_here lists next simple face plane p has
