-- Orbits: the classes into which a function joins the numbers below k with their images; and what is known where it is a bijection.
use Rattle.std.proofs.Common.{◌≡◌, ◌≢◌, ℕ, zero, suc, ◌+◌, ◌<◌, ◌≤◌, Bool, true, not, List, [], ◌∷◌, length, get_or, refl, sym, ◌∙◌, subst, inl, inr, arith}
use Rattle.std.specs.List.{All, enumerate_from}
use Rattle.std.proofs.lemmas.Bool.{cases_eq, cases_lt}
use Rattle.std.proofs.lemmas.List.{get_or_default}
use Rattle.std.proofs.lemmas.List.Elements.{All-head, All-tail, All-cons}
use Rattle.std.proofs.lemmas.List.FromFn.{length-enumerate_from, get_or-enumerate_from}
use Rattle.std.specs.Cmp.{both_ways}
use Rattle.classes.specs.Classes.{alone, merge_all, count_below, classes, orbits, image, IsPermutationOfBelow}
use Rattle.classes.proofs.Counting.{count_below_images_le, count_below_not, weaker_test_back}
use Rattle.classes.proofs.Classes.{Together, IsLabels, IsEquivalenceBelow, PairsBelow, IsLabels-alone, length-alone, merge_all-holds, merge_all-same, length-classes, IsLabels-classes, classes-holds, classes-lies}

-- ---- a function's pairs
-- each number below n with its image
abbrev pub steps : (ℕ → ℕ) → ℕ → List (ℕ × ℕ)
steps f zero = []
steps f (suc n) = (n, f n) ∷ steps f n

-- what holds of each number below n and its image holds of each pair
pub All-steps : (P : ℕ → ℕ → Type 0) (f : ℕ → ℕ) (n : ℕ) → ((i : ℕ) → i < n → P i (f i)) → All (λ p. P p.0 p.1) (steps f n)
All-steps P f zero h = λ k d l. absurd (omega arith)
All-steps P f (suc n) h = All-cons (λ p. P p.0 p.1) (n, f n) (steps f n) (h n (omega arith)) (All-steps P f n (λ i l. h i (omega arith)))

-- and the other way
pub All-steps_at : (P : ℕ → ℕ → Type 0) (f : ℕ → ℕ) (n : ℕ) → All (λ p. P p.0 p.1) (steps f n) → (i : ℕ) → i < n → P i (f i)
All-steps_at P f zero h i l = absurd (omega arith)
All-steps_at P f (suc n) h i l =
    elim (cases_eq i n) [
      | inl e ↦ let here : P n (f n) = All-head (λ p. P p.0 p.1) (n, f n) (steps f n) h in subst (λ x. P x (f x)) (sym e) here
      | inr ne ↦ All-steps_at P f n (All-tail (λ p. P p.0 p.1) (n, f n) (steps f n) h) i (omega arith)
    ]

-- no image of a number below k is past k
abbrev pub StaysBelow : (ℕ → ℕ) → ℕ → Type 0
StaysBelow f k = (i : ℕ) → i < k → f i < k

pub PairsBelow-steps : (f : ℕ → ℕ) (k n : ℕ) → n ≤ k → StaysBelow f k → PairsBelow k (steps f n)
PairsBelow-steps f k n l h = All-steps (λ i j. (i < k) × (j < k)) f n (λ i m. (omega arith, h i (omega arith)))

-- the orbits of a function on the numbers below k
abbrev pub orbits_of : (ℕ → ℕ) → ℕ → List ℕ
orbits_of f k = classes k (steps f k)

pub length-orbits_of : (f : ℕ → ℕ) (k : ℕ) → length (orbits_of f k) ≡ k
length-orbits_of f k = length-classes k (steps f k)

pub IsLabels-orbits_of : (f : ℕ → ℕ) (k : ℕ) → StaysBelow f k → IsLabels (orbits_of f k)
IsLabels-orbits_of f k h = IsLabels-classes k (steps f k) (PairsBelow-steps f k k (omega arith) h)

-- a number and its image are in one orbit
pub orbits_of-step : (f : ℕ → ℕ) (k : ℕ) → StaysBelow f k → (i : ℕ) → i < k → Together (orbits_of f k) i (f i)
orbits_of-step f k h = All-steps_at (Together (orbits_of f k)) f k (classes-holds k (steps f k) (PairsBelow-steps f k k (omega arith) h))

-- the orbits lie in every equivalence that holds each number and its image
pub orbits_of-lies : (E : ℕ → ℕ → Type 0) (f : ℕ → ℕ) (k : ℕ) → StaysBelow f k → IsEquivalenceBelow k E → ((i : ℕ) → i < k → E i (f i)) → (i j : ℕ) → i < k → j < k → Together (orbits_of f k) i j → E i j
orbits_of-lies E f k h eq new = classes-lies E k eq (steps f k) (PairsBelow-steps f k k (omega arith) h) (All-steps E f k new)

-- what each number has in common with its image is one on each orbit
pub orbits_of-marked : {X : Type 0} (mark : ℕ → X) (f : ℕ → ℕ) (k : ℕ) → StaysBelow f k → ((i : ℕ) → i < k → mark i ≡ mark (f i)) → (i j : ℕ) → i < k → j < k → Together (orbits_of f k) i j → mark i ≡ mark j
orbits_of-marked mark f k h new =
    orbits_of-lies (λ i j. mark i ≡ mark j) f k h (record { itself = λ i l. refl; turned = λ i j l m e. sym e; chained = λ i j o l m n e e'. e ∙ e' }) new

-- ---- lists of images
-- no image is past the list
abbrev pub AllBelow : List ℕ → Type 0
AllBelow images = All (λ i. i < length images) images

pub StaysBelow-image : (images : List ℕ) → AllBelow images → StaysBelow (image images) (length images)
StaysBelow-image images h i l = h i i l

PairsBelow-enumerate : (images : List ℕ) → AllBelow images → PairsBelow (length images) (enumerate_from 0 images)
PairsBelow-enumerate images h k d l =
    let m : k < length images = rw length-enumerate_from at l in
    rw (get_or-enumerate_from 0 images k d m) (omega arith, h k d.1 m)

-- the pairs of the definition are the pairs of the images
All-enumerate : (P : ℕ → ℕ → Type 0) (images : List ℕ) → ((i : ℕ) → i < length images → P i (image images i)) → All (λ p. P p.0 p.1) (enumerate_from 0 images)
All-enumerate P images h k d l =
    let m : k < length images = rw length-enumerate_from at l in
    let z : k ≡ 0 + k = omega arith in
    rw (get_or-enumerate_from 0 images k d m) (subst (λ x. P x (get_or images k d.1)) z (subst (λ y. P k y) (get_or_default images k k d.1 m) (h k m)))

All-enumerate_at : (P : ℕ → ℕ → Type 0) (images : List ℕ) → All (λ p. P p.0 p.1) (enumerate_from 0 images) → (i : ℕ) → i < length images → P i (image images i)
All-enumerate_at P images h i l =
    let m : i < length (enumerate_from 0 images) = rw length-enumerate_from l in
    let z : 0 + i ≡ i = omega arith in
    subst (λ x. P x (get_or images i i)) z (rw (get_or-enumerate_from 0 images i (i, i) l) at (h i (i, i) m))

-- onto any classes, the images of a list join what its function joins
pub images_onto : (labels images : List ℕ) → IsLabels labels → length labels ≡ length images → AllBelow images → merge_all labels (enumerate_from 0 images) ≡ merge_all labels (steps (image images) (length images))
images_onto labels images w n h =
    let k = length images in
    let pairs = enumerate_from 0 images in
    let others = steps (image images) k in
    let below : PairsBelow (length labels) pairs = rw n (PairsBelow-enumerate images h) in
    let below' : PairsBelow (length labels) others = rw n (PairsBelow-steps (image images) k k (omega arith) (StaysBelow-image images h)) in
    let one = merge_all labels pairs in
    let other = merge_all labels others in
    merge_all-same labels pairs others w below below'
    (All-enumerate (Together other) images (All-steps_at (Together other) (image images) k (merge_all-holds labels others w below')))
    (All-steps (Together one) (image images) k (All-enumerate_at (Together one) images (merge_all-holds labels pairs w below)))

-- the orbits of a list of images are those of its function
pub orbits-image : (images : List ℕ) → AllBelow images → orbits images ≡ orbits_of (image images) (length images)
orbits-image images h = images_onto (alone (length images)) images (IsLabels-alone (length images)) (length-alone (length images)) h

pub length-orbits : (images : List ℕ) → length (orbits images) ≡ length images
length-orbits images = length-classes (length images) (enumerate_from 0 images)

pub IsLabels-orbits : (images : List ℕ) → AllBelow images → IsLabels (orbits images)
IsLabels-orbits images h = IsLabels-classes (length images) (enumerate_from 0 images) (PairsBelow-enumerate images h)

-- a number and its image are in one orbit
pub orbits-step : (images : List ℕ) → AllBelow images → (i : ℕ) → i < length images → Together (orbits images) i (image images i)
orbits-step images h = All-enumerate_at (Together (orbits images)) images (classes-holds (length images) (enumerate_from 0 images) (PairsBelow-enumerate images h))

-- what each number has in common with its image is one on each orbit
pub orbits-marked : {X : Type 0} (mark : ℕ → X) (images : List ℕ) → AllBelow images → ((i : ℕ) → i < length images → mark i ≡ mark (image images i)) → (i j : ℕ) → i < length images → j < length images → Together (orbits images) i j → mark i ≡ mark j
orbits-marked mark images h new i j l m t =
    orbits_of-marked mark (image images) (length images) (StaysBelow-image images h) new i j l m (rw (orbits-image images h) at t)

-- ---- bijections
-- a bijection of the numbers below k, as a function
pub record IsPermuting (f : ℕ → ℕ) (k : ℕ) : Type 0 where
  pub within : StaysBelow f k
  pub apart : (i j : ℕ) → i < k → j < k → f i ≡ f j → i ≡ j

pub IsPermuting-image : (images : List ℕ) → IsPermutationOfBelow images → IsPermuting (image images) (length images)
IsPermuting-image images p =
    let differ : (i j : ℕ) → i < j → j < length images → image images i ≢ image images j =
    λ i j l m e. p.distinct i j i l m (e ∙ get_or_default images j j i m) in
    record {
      within = StaysBelow-image images p.within;
      apart = λ i j l m e. elim (cases_lt i j) [
        | inl s ↦ absurd (differ i j s m e)
        | inr s ↦ elim (cases_eq i j) [ inl same ↦ same | inr ne ↦ absurd (differ j i (omega arith) l (sym e)) ]
      ];
    }

-- a test passes at as many images as numbers
pub count_below-images : (f : ℕ → ℕ) (k : ℕ) → IsPermuting f k → (p : ℕ → Bool) → count_below (λ i. p (f i)) k ≡ count_below p k
count_below-images f k w p =
    let le_not = count_below_images_le f (λ i. not (p i)) k k w.within w.apart in
    omega (arith, count_below_images_le f p k k w.within w.apart, le_not, count_below_not p k, count_below_not (λ i. p (f i)) k)

-- marks that each step keeps are kept backwards too
pub marks_back : (f : ℕ → ℕ) (k : ℕ) → IsPermuting f k → (marked : ℕ → Bool) → ((i : ℕ) → i < k → marked i ≡ true → marked (f i) ≡ true) → (i : ℕ) → i < k → marked (f i) ≡ true → marked i ≡ true
marks_back f k w marked keeps = weaker_test_back marked (λ i. marked (f i)) k keeps (sym (count_below-images f k w marked))

-- marks that each step keeps are one on each orbit
pub orbits-closed_marks : (images : List ℕ) → IsPermutationOfBelow images → (marked : ℕ → Bool) → ((i : ℕ) → i < length images → marked i ≡ true → marked (image images i) ≡ true) → (i j : ℕ) → i < length images → j < length images → Together (orbits images) i j → marked i ≡ marked j
orbits-closed_marks images p marked keeps =
    let w = IsPermuting-image images p in
    orbits-marked marked images p.within (λ i l. both_ways (marked i) (marked (image images i)) (keeps i l) (marks_back (image images) (length images) w marked keeps i l))
