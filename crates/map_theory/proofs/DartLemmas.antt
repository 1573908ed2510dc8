-- Darts and their numbers, and the face step as a permutation of them.
use Rattle.std.proofs.Common.{ℕ, zero, suc, ◌+◌, ◌-◌, ◌<◌, ◌≤◌, ◌≡◌, ◌≢◌, cond, eqb, List, [], ◌∷◌, ◌++◌, length, get_or, AllPairs, Contains, sym, refl, ap, ◌∙◌, subst, inl, inr, ap₂, ltb, lt-ltb, le-ltb, arith, eq-eqb, ne_eqb, add-one}
use Rattle.std.proofs.lemmas.List.{length-append, length-map, get_or_append_left, get_or-append-add, get_or-map, get_or_default, get_or_past}
use Rattle.std.proofs.lemmas.List.Sums.{sum_by-cons}
use Rattle.std.proofs.lemmas.Bool.Decides.{nat_tests}
use Rattle.std.proofs.lemmas.Bool.{cases_lt, cases_eq, cond-true, cond-false}
use Rattle.std.proofs.lemmas.List.Elements.{Contains-get_or}
use Rattle.classes.specs.Classes.{IsPermutationOfBelow}
use Rattle.map_lists.specs.Lists.{Lists}
use Rattle.map_theory.specs.Maps.{Dart, list_of, HasDart, IsSimpleMap, darts_from, darts_since, darts, place_of, entry_after, follows, face_step, darts_before, dart_number, face_images, dart_count}

-- how many darts there are

dart_count-cons : (us : List ℕ) (lists : Lists) → dart_count (us ∷ lists) ≡ length us + dart_count lists
dart_count-cons us lists = sum_by-cons length us lists

length-darts_from : (v : ℕ) (us : List ℕ) → length (darts_from v us) ≡ length us
length-darts_from v us = length-map {B = Dart} us (λ u. (v, u))

length-darts_since : (v : ℕ) (lists : Lists) → length (darts_since v lists) ≡ dart_count lists
length-darts_since v [] = refl
length-darts_since v (us ∷ lists) =
    length-append (darts_from v us) (darts_since (v + 1) lists)
    ∙ omega (arith, length-darts_from v us, length-darts_since (v + 1) lists, dart_count-cons us lists)

-- there are as many darts as entries
pub length-darts : (lists : Lists) → length (darts lists) ≡ dart_count lists
length-darts lists = length-darts_since 0 lists

-- how many darts stand before a list

pub darts_before_none : (lists : Lists) → darts_before lists 0 ≡ 0
darts_before_none [] = refl
darts_before_none (us ∷ lists) = refl

darts_before_suc : (lists : Lists) (v : ℕ) → darts_before lists (suc v) ≡ darts_before lists v + length (list_of lists v)
darts_before_suc [] v = refl
darts_before_suc (us ∷ lists) zero = omega (arith, darts_before_none lists)
darts_before_suc (us ∷ lists) (suc v) = omega (arith, darts_before_suc lists v)

-- one list more
pub darts_before_more : (lists : Lists) (v : ℕ) → darts_before lists (v + 1) ≡ darts_before lists v + length (list_of lists v)
darts_before_more lists v = rw add-one (darts_before_suc lists v)

-- all lists
pub darts_before_all : (lists : Lists) (v : ℕ) → length lists ≤ v → darts_before lists v ≡ dart_count lists
darts_before_all [] v h = refl
darts_before_all (us ∷ lists) zero h = absurd (omega (arith, h))
darts_before_all (us ∷ lists) (suc v) h = omega (arith, darts_before_all lists v (omega (arith, h)), dart_count-cons us lists)

pub darts_before_le : (lists : Lists) (v : ℕ) → darts_before lists v ≤ dart_count lists
darts_before_le [] v = omega arith
darts_before_le (us ∷ lists) zero = omega arith
darts_before_le (us ∷ lists) (suc v) = omega (arith, darts_before_le lists v, dart_count-cons us lists)

-- a list's darts end within all darts
pub darts_before_end : (lists : Lists) (v : ℕ) → darts_before lists v + length (list_of lists v) ≤ dart_count lists
darts_before_end lists v = omega (arith, darts_before_more lists v, darts_before_le lists (v + 1))

-- the dart of entry k of list v has the number of the darts before the list, and k

dart_from_at : (v : ℕ) (us : List ℕ) (rest : List Dart) (k : ℕ) (d : Dart) (x : ℕ) → k < length us → get_or (darts_from v us ++ rest) (0 + k) d ≡ (v + 0, get_or us k x)
dart_from_at v us rest k d x i =
    let e : 0 + k ≡ k = omega arith in
    let z : v + 0 ≡ v = omega arith in
    rw (e, z)
    (get_or_append_left (darts_from v us) rest d k (omega (arith, length-darts_from v us))
    ∙ get_or-map {Y = Dart} (λ u. (v, u)) us k x d i)

dart_past_from : (v : ℕ) (us : List ℕ) (rest : List Dart) (b k : ℕ) (d : Dart) → get_or (darts_from v us ++ rest) (length us + b + k) d ≡ get_or rest (b + k) d
dart_past_from v us rest b k d =
    let e : length us + b + k ≡ length (darts_from v us) + (b + k) = omega (arith, length-darts_from v us) in
    ap (λ n. get_or (darts_from v us ++ rest) n d) e ∙ get_or-append-add (darts_from v us) rest (b + k) d

dart_since_at : (from : ℕ) (lists : Lists) (v k : ℕ) (d : Dart) (x : ℕ) → v < length lists → k < length (list_of lists v) → get_or (darts_since from lists) (darts_before lists v + k) d ≡ (from + v, get_or (list_of lists v) k x)
dart_since_at from [] v k d x h i = absurd (omega (arith, h))
dart_since_at from (us ∷ lists) zero k d x h i = dart_from_at from us (darts_since (from + 1) lists) k d x i
dart_since_at from (us ∷ lists) (suc v) k d x h i =
    let e : from + 1 + v ≡ from + suc v = omega arith in
    dart_past_from from us (darts_since (from + 1) lists) (darts_before lists v) k d
    ∙ dart_since_at (from + 1) lists v k d x (omega (arith, h)) i
    ∙ ap (λ n. (n, get_or (list_of lists v) k x)) e

pub dart_at_place : (lists : Lists) (v k : ℕ) (d : Dart) (x : ℕ) → v < length lists → k < length (list_of lists v) → get_or (darts lists) (darts_before lists v + k) d ≡ (v, get_or (list_of lists v) k x)
dart_at_place lists v k d x h i =
    let e : 0 + v ≡ v = omega arith in
    dart_since_at 0 lists v k d x h i ∙ ap (λ n. (n, get_or (list_of lists v) k x)) e

-- a place: a list, and an entry of it
pub record IsPlaceOf (lists : Lists) (i v k : ℕ) : Type 0 where
  pub list_in : v < length lists
  pub entry_in : k < length (list_of lists v)
  pub number : i ≡ darts_before lists v + k

place_of_number-cons : (us : List ℕ) (lists : Lists) (i : ℕ) → length us ≤ i → (v : ℕ) × (k : ℕ) × IsPlaceOf lists (i - length us) v k → (v : ℕ) × (k : ℕ) × IsPlaceOf (us ∷ lists) i v k
place_of_number-cons us lists i h p =
    (suc p.0, p.1, record { list_in = omega (arith, p.2.list_in); entry_in = p.2.entry_in; number = omega (arith, p.2.number) })

-- each number below the count of darts has one
pub place_of_number : (lists : Lists) (i : ℕ) → i < dart_count lists → (v : ℕ) × (k : ℕ) × IsPlaceOf lists i v k
place_of_number [] i h = absurd (omega (arith, h))
place_of_number (us ∷ lists) i h =
    elim (cases_lt i (length us)) [
      | inl l ↦ (0, i, record { list_in = omega arith; entry_in = l; number = omega arith })
      | inr l ↦ place_of_number-cons us lists i l (place_of_number lists (i - length us) (omega (arith, h, l, dart_count-cons us lists)))
    ]

-- the first place of a number in a list

pub place_of-here : (x y : ℕ) (ys : List ℕ) → y ≡ x → place_of x (y ∷ ys) ≡ 0
place_of-here x y ys e = cond-true (eqb y x) 0 (place_of x ys + 1) (eq-eqb y x e)

pub place_of-there : (x y : ℕ) (ys : List ℕ) → y ≢ x → place_of x (y ∷ ys) ≡ suc (place_of x ys)
place_of-there x y ys n = cond-false (eqb y x) 0 (place_of x ys + 1) (ne_eqb y x n) ∙ add-one (place_of x ys)

-- it stands there
pub get_or-place_of : (x : ℕ) (us : List ℕ) (d : ℕ) → place_of x us < length us → get_or us (place_of x us) d ≡ x
get_or-place_of x [] d h = absurd (omega (arith, h))
get_or-place_of x (y ∷ ys) d h =
    elim (cases_eq y x) [
      | inl e ↦ ap (λ n. get_or (y ∷ ys) n d) (place_of-here x y ys e) ∙ e
      | inr n ↦ ap (λ n. get_or (y ∷ ys) n d) (place_of-there x y ys n) ∙ get_or-place_of x ys d (omega (arith, h, place_of-there x y ys n))
    ]

-- and nowhere before
pub before_place_of : (x : ℕ) (us : List ℕ) (k d : ℕ) → k < place_of x us → get_or us k d ≢ x
before_place_of x [] k d h = absurd (omega (arith, h))
before_place_of x (y ∷ ys) zero d h = λ e. omega (arith, h, place_of-here x y ys e)
before_place_of x (y ∷ ys) (suc k) d h =
    elim (cases_eq y x) [
      | inl e ↦ absurd (omega (arith, h, place_of-here x y ys e))
      | inr n ↦ before_place_of x ys k d (omega (arith, h, place_of-there x y ys n))
    ]

-- no place before the first holds it
pub place_of-le : (x : ℕ) (us : List ℕ) (k d : ℕ) → get_or us k d ≡ x → place_of x us ≤ k
place_of-le x us k d e =
    elim (cases_lt k (place_of x us)) [ inl l ↦ absurd (before_place_of x us k d l e) | inr l ↦ l ]

pub place_of-lt-length : (x : ℕ) (us : List ℕ) → Contains us x → place_of x us < length us
place_of-lt-length x us h = omega (arith, place_of-le x us h.0 x h.2, h.1)

pub Contains-from_place_of : (x : ℕ) (us : List ℕ) → place_of x us < length us → Contains us x
Contains-from_place_of x us h = (place_of x us, h, get_or-place_of x us x h)

-- in a list without repeats each entry stands at its own place alone
pub place_of-get_or : (us : List ℕ) (k d : ℕ) → AllPairs ◌≢◌ us → k < length us → place_of (get_or us k d) us ≡ k
place_of-get_or us k d distinct h =
    let p = place_of (get_or us k d) us in
    let le : p ≤ k = place_of-le (get_or us k d) us k d refl in
    elim (cases_lt p k) [
      | inl l ↦ absurd (distinct p k d l h (get_or-place_of (get_or us k d) us d (omega arith)))
      | inr l ↦ omega arith
    ]

-- the place after k of n places, cyclically
abbrev pub place_after : ℕ → ℕ → ℕ
place_after n k = cond (ltb (k + 1) n) (k + 1) 0

-- the place before k of n places, cyclically
abbrev pub place_before : ℕ → ℕ → ℕ
place_before n k = cond (eqb k 0) (n - 1) (k - 1)

pub place_after-lt : (n k : ℕ) → k < n → place_after n k < n
place_after-lt n k h = grind (arith, nat_tests)

pub place_before-lt : (n k : ℕ) → k < n → place_before n k < n
place_before-lt n k h = grind (arith, nat_tests)

pub place_after-before : (n k : ℕ) → k < n → place_after n (place_before n k) ≡ k
place_after-before n k h = grind (arith, nat_tests)

pub place_after-injective : (n i j : ℕ) → i < n → j < n → place_after n i ≡ place_after n j → i ≡ j
place_after-injective n i j h l e = grind (arith, nat_tests)

-- two places that come after each other are all
two_places : (n i j : ℕ) → i < n → j ≡ place_after n i → i ≡ place_after n j → n ≤ 2
two_places n i j h there back = grind (arith, nat_tests)

-- the entry after one that stands in the list
pub entry_after-place : (x : ℕ) (us : List ℕ) (d : ℕ) → place_of x us < length us → entry_after x us ≡ get_or us (place_after (length us) (place_of x us)) d
unfolding entry_after
entry_after-place x us d h = grind (arith, place_of, cases_lt, length, get_or_default, get_or, cond-true, ltb, lt-ltb, get_or_past, cond-false, le-ltb)

pub Contains-entry_after : (x : ℕ) (us : List ℕ) → Contains us x → Contains us (entry_after x us)
Contains-entry_after x us h =
    let l = place_of-lt-length x us h in
    rw (entry_after-place x us x l) (Contains-get_or us _ x (place_after-lt (length us) (place_of x us) l))

pub place_of-entry_after : (x : ℕ) (us : List ℕ) → AllPairs ◌≢◌ us → Contains us x → place_of (entry_after x us) us ≡ place_after (length us) (place_of x us)
place_of-entry_after x us distinct h =
    let l = place_of-lt-length x us h in
    rw (entry_after-place x us x l) (place_of-get_or us _ x distinct (place_after-lt (length us) (place_of x us) l))

-- in a list without repeats no two entries have one entry after them
pub entry_after-injective : (us : List ℕ) (x y : ℕ) → AllPairs ◌≢◌ us → Contains us x → Contains us y → entry_after x us ≡ entry_after y us → x ≡ y
entry_after-injective us x y distinct h l e =
    let hx = place_of-lt-length x us h in
    let hy = place_of-lt-length y us l in
    let same = sym (place_of-entry_after x us distinct h) ∙ ap (λ z. place_of z us) e ∙ place_of-entry_after y us distinct l in
    let p = place_after-injective (length us) (place_of x us) (place_of y us) hx hy same in
    sym (get_or-place_of x us 0 hx) ∙ ap (λ n. get_or us n 0) p ∙ get_or-place_of y us 0 hy

-- two entries that follow each other are all
pub two_entries : (us : List ℕ) (x y : ℕ) → AllPairs ◌≢◌ us → Contains us x → entry_after x us ≡ y → entry_after y us ≡ x → length us ≤ 2
two_entries us x y distinct has there back =
    let first : place_of y us ≡ place_after (length us) (place_of x us) = ap (λ z. place_of z us) (sym there) ∙ place_of-entry_after x us distinct has in
    let second : place_of x us ≡ place_after (length us) (place_of y us) =
    ap (λ z. place_of z us) (sym back) ∙ place_of-entry_after y us distinct (subst (λ z. Contains us z) there (Contains-entry_after x us has)) in
    two_places (length us) (place_of x us) (place_of y us) (place_of-lt-length x us has) first second

-- darts and their numbers

pub dart_number-lt : (lists : Lists) (v u : ℕ) → HasDart lists v u → dart_number lists (v, u) < dart_count lists
dart_number-lt lists v u h = omega (arith, darts_before_end lists v, place_of-lt-length u (list_of lists v) h.1)

-- the dart of a dart's number is that dart
pub get_or-dart_number : (lists : Lists) (v u : ℕ) (d : Dart) → HasDart lists v u → get_or (darts lists) (dart_number lists (v, u)) d ≡ (v, u)
get_or-dart_number lists v u d h =
    let l = place_of-lt-length u (list_of lists v) h.1 in
    dart_at_place lists v (place_of u (list_of lists v)) d 0 h.0 l
    ∙ ap (λ x. (v, x)) (get_or-place_of u (list_of lists v) 0 l)

-- no two darts have one number
pub dart_number-injective : (lists : Lists) (d e : Dart) → HasDart lists d.0 d.1 → HasDart lists e.0 e.1 → dart_number lists d ≡ dart_number lists e → d ≡ e
dart_number-injective lists d e h l same =
    sym (get_or-dart_number lists d.0 d.1 d h) ∙ ap (λ n. get_or (darts lists) n d) same ∙ get_or-dart_number lists e.0 e.1 d l

-- an entry of a list is a dart
pub HasDart-at : (lists : Lists) (v k d : ℕ) → v < length lists → k < length (list_of lists v) → HasDart lists v (get_or (list_of lists v) k d)
HasDart-at lists v k d h l = (h, Contains-get_or (list_of lists v) k d l)

-- the dart of a number
pub record IsDartNumber (lists : Lists) (i : ℕ) (d : Dart) : Type 0 where
  pub is_dart : HasDart lists d.0 d.1
  pub number : dart_number lists d ≡ i

dart_number_at : (lists : Lists) (i v k : ℕ) (d : Dart) → AllPairs ◌≢◌ (list_of lists v) → IsPlaceOf lists i v k → IsDartNumber lists i (get_or (darts lists) i d)
dart_number_at lists i v k d distinct p =
    rw (ap (λ n. get_or (darts lists) n d) p.number ∙ dart_at_place lists v k d 0 p.list_in p.entry_in) record {
      is_dart = HasDart-at lists v k 0 p.list_in p.entry_in;
      number = ap (λ n. darts_before lists v + n) (place_of-get_or (list_of lists v) k 0 distinct p.entry_in) ∙ sym p.number;
    }

-- each number below the count of darts has its dart, where no list has a repeat
pub IsDartNumber-darts : (lists : Lists) (i : ℕ) (d : Dart) → ((v : ℕ) → v < length lists → AllPairs ◌≢◌ (list_of lists v)) → i < dart_count lists → IsDartNumber lists i (get_or (darts lists) i d)
IsDartNumber-darts lists i d distinct h =
    let p = place_of_number lists i h in
    dart_number_at lists i p.0 p.1 d (distinct p.0 p.2.list_in) p.2

-- the face step

-- what follows a neighbour is a neighbour
pub HasDart-follows : (lists : Lists) (v u : ℕ) → HasDart lists v u → HasDart lists v (follows lists v u)
HasDart-follows lists v u h = (h.0, Contains-entry_after u (list_of lists v) h.1)

pub HasDart-face_step : (lists : Lists) (d : Dart) → IsSimpleMap lists → HasDart lists d.0 d.1 → HasDart lists (face_step lists d).0 (face_step lists d).1
HasDart-face_step lists d simple h = HasDart-follows lists d.1 d.0 (simple.both_ways d.0 d.1 h)

pub face_step-injective : (lists : Lists) (d e : Dart) → IsSimpleMap lists → HasDart lists d.0 d.1 → HasDart lists e.0 e.1 → face_step lists d ≡ face_step lists e → d ≡ e
face_step-injective lists d e simple h l same =
    let back = simple.both_ways d.0 d.1 h in
    let heads : d.1 ≡ e.1 = ap (λ x. x.0) same in
    let twin : HasDart lists d.1 e.0 = rw heads (simple.both_ways e.0 e.1 l) in
    let after : follows lists d.1 d.0 ≡ follows lists d.1 e.0 = ap (λ x. x.1) same ∙ ap (λ x. follows lists x e.0) (sym heads) in
    ap₂ (λ x y. (x, y)) (entry_after-injective (list_of lists d.1) d.0 e.0 (simple.no_repeat d.1 back.0) back.1 twin.1 after) heads

-- the images of the face step

pub length-face_images : (lists : Lists) → length (face_images lists) ≡ dart_count lists
length-face_images lists = length-map {B = ℕ} (darts lists) (λ d. dart_number lists (face_step lists d)) ∙ length-darts lists

pub get_or-face_images : (lists : Lists) (i x : ℕ) (d : Dart) → i < dart_count lists → get_or (face_images lists) i x ≡ dart_number lists (face_step lists (get_or (darts lists) i d))
get_or-face_images lists i x d h = get_or-map {Y = ℕ} (λ d. dart_number lists (face_step lists d)) (darts lists) i d x (omega (arith, length-darts lists))

face_images-lt : (lists : Lists) (i x : ℕ) → IsSimpleMap lists → i < dart_count lists → get_or (face_images lists) i x < dart_count lists
face_images-lt lists i x simple h =
    let p = IsDartNumber-darts lists i (0, 0) simple.no_repeat h in
    rw (get_or-face_images lists i x (0, 0) h) (dart_number-lt lists _ _ (HasDart-face_step lists (get_or (darts lists) i (0, 0)) simple p.is_dart))

face_images-injective : (lists : Lists) (i j x : ℕ) → IsSimpleMap lists → i < dart_count lists → j < dart_count lists → get_or (face_images lists) i x ≡ get_or (face_images lists) j x → i ≡ j
face_images-injective lists i j x simple h l same =
    let d : Dart = get_or (darts lists) i (0, 0) in
    let e : Dart = get_or (darts lists) j (0, 0) in
    let p = IsDartNumber-darts lists i (0, 0) simple.no_repeat h in
    let q = IsDartNumber-darts lists j (0, 0) simple.no_repeat l in
    let steps = dart_number-injective lists (face_step lists d) (face_step lists e) (HasDart-face_step lists d simple p.is_dart) (HasDart-face_step lists e simple q.is_dart)
    (sym (get_or-face_images lists i x (0, 0) h) ∙ same ∙ get_or-face_images lists j x (0, 0) l) in
    sym p.number ∙ ap (λ x. dart_number lists x) (face_step-injective lists d e simple p.is_dart q.is_dart steps) ∙ q.number

-- the face step of a simple map is a bijection of the numbers of its darts
pub IsPermutationOfBelow-face_images : (lists : Lists) → IsSimpleMap lists → IsPermutationOfBelow (face_images lists)
IsPermutationOfBelow-face_images lists simple = grind (arith, length-face_images, face_images-lt, face_images-injective)

-- the first place of a number, from what stands before it

pub place_of-is : (x : ℕ) (us : List ℕ) (k : ℕ) → k < length us → get_or us k 0 ≡ x → ((i : ℕ) → i < k → get_or us i 0 ≢ x) → place_of x us ≡ k
place_of-is x us k l e before =
    elim (cases_lt (place_of x us) k) [
      | inl less ↦ absurd (before (place_of x us) less (get_or-place_of x us 0 (omega arith)))
      | inr more ↦ omega (arith, place_of-le x us k 0 e)
    ]

pub not-Contains-from : (x : ℕ) (us : List ℕ) → ((i : ℕ) → i < length us → get_or us i 0 ≢ x) → ¬ Contains us x
not-Contains-from x us h c = h c.0 c.1 (get_or_default us c.0 0 x c.1 ∙ c.2)

-- each number below the count of darts has a dart of the lists
pub HasDart-darts : (lists : Lists) (i : ℕ) (d : Dart) → i < dart_count lists → HasDart lists (get_or (darts lists) i d).0 (get_or (darts lists) i d).1
HasDart-darts lists i d h =
    let p = place_of_number lists i h in
    let e = ap (λ n. get_or (darts lists) n d) p.2.number ∙ dart_at_place lists p.0 p.1 d 0 p.2.list_in p.2.entry_in in
    rw e (HasDart-at lists p.0 p.1 0 p.2.list_in p.2.entry_in)
