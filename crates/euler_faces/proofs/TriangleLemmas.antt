-- Where each corner is one of a triangle, three darts make a face.
use Rattle.std.proofs.Common.{◌≡◌, ◌≢◌, ◌⊎◌, ℕ, zero, suc, ◌+◌, ◌-◌, ◌*◌, ◌<◌, ◌≤◌, Bool, cond, eqb, List, ◌∷◌, length, get_or, refl, sym, ap, ap₂, ◌∙◌, subst, inl, inr, arith}
use Rattle.std.proofs.lemmas.Bool.Decides.{nat_tests}
use Rattle.classes.specs.Classes.{image, label, orbits, class_count, count_below, IsPermutationOfBelow}
use Rattle.classes.proofs.Classes.{Together-label, label-lt, same_class-from}
use Rattle.classes.proofs.Counting.{one_if}
use Rattle.classes.proofs.Orbits.{IsPermuting-image, IsLabels-orbits, length-orbits, orbits-step, count_below-images}
use Rattle.classes.proofs.Walks.{walk, visited_at, visited_is_orbit}
use Rattle.map_lists.specs.Lists.{Lists}
use Rattle.map_lists.specs.Cuts.{cut, AreCuts}
use Rattle.map_lists.proofs.CutLemmas.{length-cut}
use Rattle.map_theory.specs.Maps.{Dart, IsSimpleMap, HasDart, list_of, darts, dart_count, dart_number, follows, face_step, face_images, face_classes}
use Rattle.map_theory.proofs.DartLemmas.{HasDart-at, HasDart-follows, HasDart-face_step, IsDartNumber-darts, IsPermutationOfBelow-face_images, dart_number-injective, dart_number-lt, entry_after-injective, entry_after-place, get_or-dart_number, get_or-face_images, length-face_images, place_after, place_after-before, place_before, place_before-lt, place_of-get_or, place_of-lt-length}
use Rattle.simple_maps.proofs.FlatLemmas.{count-is, dart-is, end-is, entry-is}
use Rattle.euler_faces.specs.Corners.{IsCornerOfThree, AreCornersBelow}
use Rattle.euler_faces.proofs.OrbitLemmas.{dart_head}

-- a number is just one of three
one_of_three : (l a b c : ℕ) → a ≢ b → b ≢ c → a ≢ c → (l ≡ a) ⊎ ((l ≡ b) ⊎ (l ≡ c)) → one_if (eqb l a) + one_if (eqb l b) + one_if (eqb l c) ≡ 1
one_of_three l a b c ab bc ac h = grind (arith, nat_tests)

-- three tests of which just one passes, at each number
count_of_three : (p q r : ℕ → Bool) (n : ℕ) → ((i : ℕ) → i < n → one_if (p i) + one_if (q i) + one_if (r i) ≡ 1) → count_below p n + count_below q n + count_below r n ≡ n
count_of_three p q r zero h = refl
count_of_three p q r (suc n) h =
    omega (arith, count_of_three p q r n (λ i l. h i (omega arith)))

-- orbits of three numbers each
module _ (images : List ℕ) (perm : IsPermutationOfBelow images) (back : (i : ℕ) → i < length images → image images (image images (image images i)) ≡ i) (other : (i : ℕ) → i < length images → image images i ≢ i) where
  abbrev f : ℕ → ℕ
  f = image images

  abbrev L : List ℕ
  L = orbits images

  abbrev own : ℕ → Bool
  own i = eqb (label L i) i

  three_visited : (i l j : ℕ) → j < 3 → walk f i j ≡ l → (l ≡ i) ⊎ ((l ≡ f i) ⊎ (l ≡ f (f i)))
  three_visited i l zero h e = inl (sym e)
  three_visited i l (suc zero) h e = inr (inl (sym e))
  three_visited i l (suc (suc zero)) h e = inr (inr (sym e))
  three_visited i l (suc (suc (suc j))) h e = absurd (omega arith)

  -- of each number and its two images just one is its own label
  own_of_three : (i : ℕ) → i < length images → one_if (own i) + one_if (own (f i)) + one_if (own (f (f i))) ≡ 1
  own_of_three i m =
      let labels = IsLabels-orbits images perm.within in
      let l = label L i in
      let l_in : l < length images = (let h = label-lt L labels i (omega (arith, length-orbits images)) in omega arith) in
      let m1 : f i < length images = (IsPermuting-image images perm).within i m in
      let one : label L (f i) ≡ l = sym (orbits-step images perm.within i m) in
      let two : label L (f (f i)) ≡ l = sym (orbits-step images perm.within (f i) m1) ∙ one in
      let met = visited_at f i 3 l (visited_is_orbit images perm i 3 m (omega arith) (back i m) l l_in ∙ same_class-from L i l (Together-label L labels i)) in
      let ab : i ≢ f i = λ e. other i m (sym e) in
      let bc : f i ≢ f (f i) = λ e. other (f i) m1 (sym e) in
      let ac : i ≢ f (f i) = λ e. other i m (ap f e ∙ back i m) in
      subst (λ (x : ℕ). one_if (own i) + one_if (eqb x (f i)) + one_if (own (f (f i))) ≡ 1) (sym one)
      (subst (λ (x : ℕ). one_if (own i) + one_if (eqb l (f i)) + one_if (eqb x (f (f i))) ≡ 1) (sym two)
      (one_of_three l i (f i) (f (f i)) ab bc ac (three_visited i l met.0 met.1 met.2)))

  pub orbits_of_three : 3 * class_count L ≡ length images
  orbits_of_three =
      let k = length images in
      let w = IsPermuting-image images perm in
      let three = count_of_three own (λ i. own (f i)) (λ i. own (f (f i))) k own_of_three in
      let all : class_count L ≡ count_below own k = ap (count_below own) (length-orbits images) in
      omega (arith, count_below-images f k w (λ i. own (f i)), count_below-images f k w own)

-- faces of three darts each
module _ (lists : Lists) (simple : IsSimpleMap lists) (corners : AreCornersBelow lists (dart_count lists)) where
  corner : (v u : ℕ) → HasDart lists v u → IsCornerOfThree lists v u
  corner v u has =
      subst (λ (d : Dart). IsCornerOfThree lists d.0 d.1) (get_or-dart_number lists v u (0, 0) has) (corners (dart_number lists (v, u)) (dart_number-lt lists v u has))

  thrice : (v u : ℕ) → HasDart lists v u → face_step lists (face_step lists (face_step lists (v, u))) ≡ (v, u)
  thrice v u has =
      let w = follows lists u v in
      let x = follows lists w u in
      let uv = simple.both_ways v u has in
      let next = corner u w (HasDart-follows lists u v uv) in
      let same : x ≡ v = entry_after-injective (list_of lists u) x v (simple.no_repeat u uv.0) next.joined.1 uv.1 next.back in
      ap₂ (λ (y z : ℕ). (y, z)) same (ap (λ (y : ℕ). follows lists y w) same ∙ (corner v u has).back)

  image_at : (d : Dart) → HasDart lists d.0 d.1 → image (face_images lists) (dart_number lists d) ≡ dart_number lists (face_step lists d)
  image_at d has =
      get_or-face_images lists (dart_number lists d) (dart_number lists d) (0, 0) (dart_number-lt lists d.0 d.1 has)
      ∙ ap (λ (e : Dart). dart_number lists (face_step lists e)) (get_or-dart_number lists d.0 d.1 (0, 0) has)

  faces_back : (i : ℕ) → i < length (face_images lists) → image (face_images lists) (image (face_images lists) (image (face_images lists) i)) ≡ i
  faces_back i l =
      let f = image (face_images lists) in
      let d : Dart = get_or (darts lists) i (0, 0) in
      let is = IsDartNumber-darts lists i (0, 0) simple.no_repeat (omega (arith, length-face_images lists)) in
      let has1 = HasDart-face_step lists d simple is.is_dart in
      let has2 = HasDart-face_step lists (face_step lists d) simple has1 in
      let one : f i ≡ dart_number lists (face_step lists d) = ap f (sym is.number) ∙ image_at d is.is_dart in
      let two : f (f i) ≡ dart_number lists (face_step lists (face_step lists d)) = ap f one ∙ image_at (face_step lists d) has1 in
      let three : f (f (f i)) ≡ dart_number lists (face_step lists (face_step lists (face_step lists d))) = ap f two ∙ image_at (face_step lists (face_step lists d)) has2 in
      three ∙ (ap (λ (e : Dart). dart_number lists e) (thrice d.0 d.1 is.is_dart) ∙ is.number)

  faces_other : (i : ℕ) → i < length (face_images lists) → image (face_images lists) i ≢ i
  faces_other i l e =
      let d : Dart = get_or (darts lists) i (0, 0) in
      let is = IsDartNumber-darts lists i (0, 0) simple.no_repeat (omega (arith, length-face_images lists)) in
      let one = ap (image (face_images lists)) (sym is.number) ∙ image_at d is.is_dart in
      let same = dart_number-injective lists (face_step lists d) d (HasDart-face_step lists d simple is.is_dart) is.is_dart (sym one ∙ (e ∙ sym is.number)) in
      simple.no_loop d.0 d.1 is.is_dart (ap (λ (x : Dart). x.0) same)

  pub faces_of_three : 3 * class_count (face_classes lists) ≡ dart_count lists
  faces_of_three = orbits_of_three (face_images lists) (IsPermutationOfBelow-face_images lists simple) faces_back faces_other ∙ length-face_images lists

-- the place before one in a row, cyclically in its list
before_place : (s n d e : ℕ) → s ≤ d → d < e → s + n ≡ e → cond (eqb d s) (e - 1) (d - 1) ≡ s + place_before n (d - s)
before_place s n d e low high all = grind (arith, nat_tests)

module _ (ends entries : List ℕ) (cuts : AreCuts 0 ends (length entries)) (simple : IsSimpleMap (cut 0 ends entries)) where
  -- what is tested at an entry makes it a corner of three
  pub corner_at : (v d : ℕ) → v < length ends → get_or (0 ∷ ends) v 0 ≤ d → d < get_or ends v 0 → d < length entries
      → get_or entries (image (face_images (cut 0 ends entries)) d) 0 ≡ get_or entries (cond (eqb d (get_or (0 ∷ ends) v 0)) (get_or ends v 0 - 1) (d - 1)) 0
      → IsCornerOfThree (cut 0 ends entries) (get_or (darts (cut 0 ends entries)) d (0, 0)).0 (get_or (darts (cut 0 ends entries)) d (0, 0)).1
  corner_at v d v_in low high d_in test =
      let lists = cut 0 ends entries in
      let long = length-cut 0 ends entries in
      let count = count-is ends entries cuts in
      let s = get_or (0 ∷ ends) v 0 in
      let us = list_of lists v in
      let n = length us in
      let all = end-is ends entries cuts v v_in in
      let j = d - s in
      let j_in : j < n = omega arith in
      let at : s + j ≡ d = omega arith in
      let k = place_before n j in
      let k_in = place_before-lt n j j_in in
      let u = get_or us j 0 in
      let p = get_or us k 0 in
      let dart : get_or (darts lists) d (0, 0) ≡ (v, u) =
      ap (λ x. get_or (darts lists) x (0, 0)) (sym at) ∙ (dart-is ends entries cuts v j v_in j_in ∙ ap (λ x. (v, x)) (sym (entry-is ends entries cuts v j v_in j_in))) in
      let before = HasDart-at lists v k 0 (omega arith) k_in in
      let w = follows lists u v in
      let next = HasDart-face_step lists (v, u) simple (HasDart-at lists v j 0 (omega arith) j_in) in
      let step : image (face_images lists) d ≡ dart_number lists (u, w) =
      get_or-face_images lists d d (0, 0) (omega arith) ∙ ap (λ (e : Dart). dart_number lists (face_step lists e)) dart in
      let step_in : dart_number lists (u, w) < length entries = (let h = dart_number-lt lists u w next in omega arith) in
      let entry : get_or entries (image (face_images lists) d) 0 ≡ w =
      ap (λ x. get_or entries x 0) step ∙ (sym (dart_head ends entries cuts simple (dart_number lists (u, w)) step_in) ∙ ap (λ (e : Dart). e.1) (get_or-dart_number lists u w (0, 0) next)) in
      let is : w ≡ p =
      sym entry ∙ (test ∙ (ap (λ x. get_or entries x 0) (before_place s n d (get_or ends v 0) low high all) ∙ sym (entry-is ends entries cuts v k v_in k_in))) in
      let place = place_of-get_or us k 0 (simple.no_repeat v (omega arith)) k_in in
      let back : follows lists v p ≡ u =
      entry_after-place p us 0 (place_of-lt-length p us before.1) ∙ ap (λ x. get_or us x 0) (ap (place_after n) place ∙ place_after-before n j j_in) in
      subst (λ (e : Dart). IsCornerOfThree lists e.0 e.1) (sym dart) record {
        joined = subst (λ (x : ℕ). HasDart lists v x) (sym is) before;
        back = ap (λ (x : ℕ). follows lists v x) is ∙ back;
      }

  pub step_in : (d : ℕ) → d < length entries → image (face_images (cut 0 ends entries)) d < length entries
  step_in d l =
      let lists = cut 0 ends entries in
      let n = length-face_images lists in
      let count = count-is ends entries cuts in
      omega (arith, (IsPermuting-image (face_images lists) (IsPermutationOfBelow-face_images lists simple)).within d (omega arith))
