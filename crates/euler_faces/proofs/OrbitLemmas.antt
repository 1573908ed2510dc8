-- A walk along a face by the numbers of darts, which overwrites the twins that it has read.
use Rattle.std.proofs.Common.{◌≡◌, ◌≢◌, ℕ, zero, suc, ◌+◌, ◌<◌, ◌≤◌, Bool, false, ◌||◌, refl, cond, eqb, List, ◌∷◌, length, get_or, set, slice_get, Some, sym, ap, ap₂, ◌∙◌, subst, inl, inr, arith, get_or-set_same, get_or-set_other}
use Rattle.std.proofs.lemmas.Bool.{cases_eq, eq-eqb, ne_eqb}
use Rattle.std.proofs.lemmas.Bool.Decides.{nat_tests}
use Rattle.std.proofs.lemmas.Option.{slice_get_within, get_or_from_slice_get}
use Rattle.classes.specs.Classes.{image, label, count_below, class_count, same_class}
use Rattle.classes.proofs.Classes.{IsLabels}
use Rattle.classes.proofs.Marks.{SetsMark, IsCounting, IsCounting-new}
use Rattle.map_lists.specs.Lists.{Lists}
use Rattle.map_lists.specs.Cuts.{cut, AreCuts}
use Rattle.map_lists.proofs.CutLemmas.{length-cut}
use Rattle.map_theory.specs.Maps.{Dart, IsSimpleMap, HasDart, list_of, darts, dart_count, dart_number, place_of, twin_dart, face_images}
use Rattle.map_theory.proofs.DartLemmas.{length-darts, IsDartNumber-darts, get_or-face_images, place_after, place_of-entry_after, place_of-lt-length, place_of_number}
use Rattle.simple_maps.specs.Tables.{AreTwins}
use Rattle.simple_maps.proofs.FlatLemmas.{start-is, end-is, count-is, dart-is}
use Rattle.euler_faces.specs.Slots.{walked, HaveTwins}

-- a number written at a place marks just that place
pub SetsMark-walked : (twins : List ℕ) (k d : ℕ) → d < length twins → SetsMark k (walked twins) (walked (set twins d 4294967295)) d
SetsMark-walked twins k d l = record {
  here = eq-eqb (get_or (set twins d 4294967295) d 0) 4294967295 (get_or-set_same twins d 4294967295 0 l);
  elsewhere = λ i m ne. ap (λ t. eqb t 4294967295) (get_or-set_other twins d i 4294967295 0 ne);
}

-- the other darts have their twins as before
pub HaveTwins-walked : (lists : Lists) (twins : List ℕ) (d : ℕ) → d < length twins → HaveTwins lists twins → HaveTwins lists (set twins d 4294967295)
HaveTwins-walked lists twins d l h i m =
    elim (cases_eq i d) [
      | inl e ↦ inl (ap (λ x. get_or (set twins d 4294967295) x 0) e ∙ get_or-set_same twins d 4294967295 0 l)
      | inr ne ↦ (let same = get_or-set_other twins d i 4294967295 0 ne in rw same (h i m))
    ]

-- the twins of all darts: none was walked over
module _ (lists : Lists) (twins : List ℕ) (are : AreTwins (darts lists) twins (length (darts lists))) where
  pub HaveTwins-all : HaveTwins lists twins
  HaveTwins-all d l = inr (are.at d (omega (arith, l, length-darts lists)))

  pub none_walked : dart_count lists < 16777216 → (i : ℕ) → i < dart_count lists → walked twins i ≡ false
  none_walked few i l =
      let n = length-darts lists in
      ne_eqb (get_or twins i 0) 4294967295 (omega (arith, slice_get_within (darts lists) (get_or twins i 0) _ (are.at i (omega (arith, l)))))

-- the k-th of n numbers from s on, and the one after it, cyclically
after-place : (s n k e : ℕ) → k < n → s + n ≡ e → cond (eqb (s + k + 1) e) s (s + k + 1) ≡ s + place_after n k
after-place s n k e l m = grind (arith, nat_tests)

module _ (ends entries : List ℕ) (cuts : AreCuts 0 ends (length entries)) (simple : IsSimpleMap (cut 0 ends entries)) where
  -- a dart leads to its entry
  pub dart_head : (d : ℕ) → d < length entries → (get_or (darts (cut 0 ends entries)) d (0, 0)).1 ≡ get_or entries d 0
  dart_head d l =
      let p = place_of_number (cut 0 ends entries) d (omega (arith, count-is ends entries cuts)) in
      let v_in : p.0 < length ends = omega (arith, p.2.list_in, length-cut 0 ends entries) in
      let number : d ≡ get_or (0 ∷ ends) p.0 0 + p.1 = p.2.number ∙ ap (λ s. s + p.1) (start-is ends entries cuts p.0 (omega arith)) in
      ap (λ x. (get_or (darts (cut 0 ends entries)) x (0, 0)).1) number
      ∙ (ap (λ (x : Dart). x.1) (dart-is ends entries cuts p.0 p.1 v_in p.2.entry_in) ∙ ap (λ y. get_or entries y 0) (sym number))

  -- the dart after the twin, in its list, is the next along the face
  pub step-is : (d t : ℕ) → d < length entries → slice_get (darts (cut 0 ends entries)) t ≡ Some (twin_dart (get_or (darts (cut 0 ends entries)) d (0, 0)))
      → (get_or entries d 0 < length ends) × (t < length entries) × (cond (eqb (t + 1) (get_or ends (get_or entries d 0) 0)) (get_or (0 ∷ ends) (get_or entries d 0) 0) (t + 1) ≡ image (face_images (cut 0 ends entries)) d)
      × ((get_or (0 ∷ ends) (get_or entries d 0) 0 ≤ t) × (t < get_or ends (get_or entries d 0) 0))
  step-is d t l found =
      let lists = cut 0 ends entries in
      let n = length-darts lists in
      let count = count-is ends entries cuts in
      let dart : Dart = get_or (darts lists) d (0, 0) in
      let u = dart.1 in
      let t_in : t < dart_count lists = omega (arith, slice_get_within (darts lists) t (twin_dart dart) found) in
      let twin : get_or (darts lists) t (0, 0) ≡ (u, dart.0) = get_or_from_slice_get (darts lists) t (twin_dart dart) (0, 0) found in
      let is = IsDartNumber-darts lists t (0, 0) simple.no_repeat t_in in
      let has : HasDart lists u dart.0 = subst (λ (x : Dart). HasDart lists x.0 x.1) twin is.is_dart in
      let number : dart_number lists (u, dart.0) ≡ t = ap (λ (x : Dart). dart_number lists x) (sym twin) ∙ is.number in
      let us = list_of lists u in
      let k = place_of dart.0 us in
      let k_in = place_of-lt-length dart.0 us has.1 in
      let u_in : u < length ends = omega (arith, has.0, length-cut 0 ends entries) in
      let s = get_or (0 ∷ ends) u 0 in
      let at : t ≡ s + k = sym number ∙ ap (λ x. x + k) (start-is ends entries cuts u (omega arith)) in
      let head : u ≡ get_or entries d 0 = dart_head d l in
      let next : cond (eqb (s + k + 1) (get_or ends u 0)) s (s + k + 1) ≡ s + place_after (length us) k = after-place s (length us) k (get_or ends u 0) k_in (end-is ends entries cuts u u_in) in
      let along : s + place_after (length us) k ≡ image (face_images lists) d =
      ap₂ (λ x y. x + y) (sym (start-is ends entries cuts u (omega arith))) (sym (place_of-entry_after dart.0 us (simple.no_repeat u has.0) has.1))
      ∙ sym (get_or-face_images lists d d (0, 0) (omega arith)) in (
        omega (arith, u_in, head),
        omega (arith, t_in),
        subst (λ x. cond (eqb (t + 1) (get_or ends x 0)) (get_or (0 ∷ ends) x 0) (t + 1) ≡ image (face_images lists) d) head
            (ap (λ x. cond (eqb (x + 1) (get_or ends u 0)) s (x + 1)) at ∙ (next ∙ along)),
        subst (λ x. (get_or (0 ∷ ends) x 0 ≤ t) × (t < get_or ends x 0)) head (omega (arith, at), omega (arith, at, k_in, end-is ends entries cuts u u_in)),
      )

  -- the twin that is read at a dart that was not walked over
  pub read_twin : (twins : List ℕ) (d : ℕ) → d < length entries → HaveTwins (cut 0 ends entries) twins → get_or twins d 0 ≢ 4294967295
      → slice_get (darts (cut 0 ends entries)) (get_or twins d 0) ≡ Some (twin_dart (get_or (darts (cut 0 ends entries)) d (0, 0)))
  read_twin twins d l h new =
      elim (h d (omega (arith, count-is ends entries cuts))) [ inl e ↦ absurd (new e) | inr found ↦ found ]

  pub twins_long : (twins : List ℕ) → AreTwins (darts (cut 0 ends entries)) twins (length (darts (cut 0 ends entries))) → length twins ≡ length entries
  twins_long twins are = omega (arith, are.count, length-darts (cut 0 ends entries), count-is ends entries cuts)

  -- the step from a dart, by its twin
  pub twin_step : (twins : List ℕ) → AreTwins (darts (cut 0 ends entries)) twins (length (darts (cut 0 ends entries))) → (d : ℕ) → d < length entries
      → (get_or entries d 0 < length ends) × (get_or twins d 0 < length entries) × (cond (eqb (get_or twins d 0 + 1) (get_or ends (get_or entries d 0) 0)) (get_or (0 ∷ ends) (get_or entries d 0) 0) (get_or twins d 0 + 1) ≡ image (face_images (cut 0 ends entries)) d)
      × ((get_or (0 ∷ ends) (get_or entries d 0) 0 ≤ get_or twins d 0) × (get_or twins d 0 < get_or ends (get_or entries d 0) 0))
  twin_step twins are d l =
      step-is d (get_or twins d 0) l (are.at d (omega (arith, l, length-darts (cut 0 ends entries), count-is ends entries cuts)))

-- a count of numbers grows with the numbers
count_below-grows : (p : ℕ → Bool) (i n : ℕ) → i ≤ n → count_below p i ≤ count_below p n
count_below-grows p i zero l = let e : i ≡ 0 = omega arith in rw e (omega arith)
count_below-grows p i (suc n) l =
    elim (cases_eq i (suc n)) [
      | inl e ↦ rw e (omega arith)
      | inr ne ↦ omega (arith, count_below-grows p i n (omega arith))
    ]

-- where the least number of a class that is not counted would be the last that there can be, it is the last
pub IsCounting-last : (labels : List ℕ) (marked : ℕ → Bool) (count i most : ℕ) → IsLabels labels → IsCounting labels marked count i → i < length labels → marked i ≡ false → class_count labels ≤ most → count + 1 ≡ most → count + 1 ≡ class_count labels
IsCounting-last labels marked count i most w h l off bound e =
    let next = IsCounting-new labels marked (λ y. marked y || same_class labels i y) count i (i + 1) w h l off (λ y m. refl) refl in
    omega (arith, next.counted, count_below-grows (λ j. eqb (label labels j) j) (i + 1) (length labels) (omega arith))
