-- Lists that a function gives, each with the entries of two maps.
use Rattle.std.proofs.Common.{◌≡◌, ◌≢◌, ◌⊎◌, ℕ, ◌<◌, Bool, true, false, List, [], length, AllPairs, Contains, sym, ap, ◌∙◌, subst, inl, inr, arith, ltb, lt-ltb}
use Rattle.std.specs.List.{range_with_len}
use Rattle.std.proofs.lemmas.Bool.{cases_lt, ltb-true, false_from_ne_true}
use Rattle.std.proofs.lemmas.List.{length-map, get_or-map, get_or_past}
use Rattle.std.proofs.lemmas.List.FromFn.{length-range_with_len, get_or-range_with_len}
use Rattle.map_lists.specs.Lists.{Lists}
use Rattle.map_theory.specs.Maps.{Dart, HasDart, IsSimpleMap, list_of, place_of}
use Rattle.map_theory.proofs.DartLemmas.{place_of-lt-length, Contains-from_place_of}
use Rattle.embed_surgery.proofs.Entries.{lists_by}

pub length-lists_by : (f : ℕ → List ℕ) (n : ℕ) → length (lists_by f n) ≡ n
length-lists_by f n = length-map {B = List ℕ} (range_with_len 0 n) f ∙ length-range_with_len 0 n

pub list_of-lists_by : (f : ℕ → List ℕ) (n v : ℕ) → v < n → list_of (lists_by f n) v ≡ f v
list_of-lists_by f n v l =
    let r = length-range_with_len 0 n in
    get_or-map {Y = List ℕ} f (range_with_len 0 n) v 0 [] (omega arith) ∙ ap f (get_or-range_with_len 0 n v 0 l ∙ omega arith)

-- whether a map has a dart, as a test
pub has_dart : Lists → Dart → Bool
has_dart lists d = ltb (place_of d.1 (list_of lists d.0)) (length (list_of lists d.0))

pub has_dart-is : (lists : Lists) (x y : ℕ) → HasDart lists x y → has_dart lists (x, y) ≡ true
unfolding has_dart
has_dart-is lists x y d = lt-ltb (place_of y (list_of lists x)) (length (list_of lists x)) (place_of-lt-length y (list_of lists x) d.1)

pub HasDart-from : (lists : Lists) (x y : ℕ) → has_dart lists (x, y) ≡ true → HasDart lists x y
unfolding has_dart
HasDart-from lists x y t =
    let c = Contains-from_place_of y (list_of lists x) (ltb-true (place_of y (list_of lists x)) (length (list_of lists x)) t) in (
      elim (cases_lt x (length lists)) [
        | inl l ↦ l
        | inr l ↦ absurd (let e = ap (λ (us : List ℕ). length us) (get_or_past lists x [] l) in let m = c.1 in omega arith)
      ],
      c,
    )

pub has_dart-not : (lists : Lists) (x y : ℕ) → ¬ HasDart lists x y → has_dart lists (x, y) ≡ false
has_dart-not lists x y n = false_from_ne_true (has_dart lists (x, y)) (λ t. n (HasDart-from lists x y t))

module _ (one other : Lists) (s1 : IsSimpleMap one) (s2 : IsSimpleMap other) (same : length other ≡ length one) (f : ℕ → List ℕ) (distinct : (v : ℕ) → v < length one → AllPairs ◌≢◌ (f v)) (old : (v u : ℕ) → v < length one → Contains (f v) u → Contains (list_of one v) u ⊎ Contains (list_of other v) u) (all : (v u : ℕ) → v < length one → Contains (list_of one v) u ⊎ Contains (list_of other v) u → Contains (f v) u) where
  abbrev pub union : Lists
  union = lists_by f (length one)

  pub length-union : length union ≡ length one
  length-union = length-lists_by f (length one)

  pub union-old : (v u : ℕ) → HasDart union v u → HasDart one v u ⊎ HasDart other v u
  union-old v u d =
      let l : v < length one = let m = d.0 in omega (arith, length-union) in
      elim (old v u l (subst (λ us. Contains us u) (list_of-lists_by f (length one) v l) d.1)) [
        | inl c ↦ inl (l, c)
        | inr c ↦ inr (omega arith, c)
      ]

  pub union-new : (v u : ℕ) → HasDart one v u ⊎ HasDart other v u → HasDart union v u
  union-new v u h =
      let l : v < length one = elim h [ inl d ↦ d.0 | inr d ↦ let m = d.0 in omega arith ] in
      let c : Contains (list_of one v) u ⊎ Contains (list_of other v) u = elim h [ inl d ↦ inl d.1 | inr d ↦ inr d.1 ] in
      (omega (arith, length-union), subst (λ us. Contains us u) (sym (list_of-lists_by f (length one) v l)) (all v u l c))

  pub IsSimpleMap-union : IsSimpleMap union
  IsSimpleMap-union =
      let n = length-union in
      record {
        some_vertex = let m = s1.some_vertex in omega arith;
        in_range = λ v u d. elim (union-old v u d) [
          | inl h ↦ let m = s1.in_range v u h in omega arith
          | inr h ↦ let m = s2.in_range v u h in omega arith
        ];
        no_loop = λ v u d. elim (union-old v u d) [ inl h ↦ s1.no_loop v u h | inr h ↦ s2.no_loop v u h ];
        no_repeat = λ v l. let m : v < length one = omega arith in subst (AllPairs ◌≢◌) (sym (list_of-lists_by f (length one) v m)) (distinct v m);
        both_ways = λ v u d. union-new u v (elim (union-old v u d) [ inl h ↦ inl (s1.both_ways v u h) | inr h ↦ inr (s2.both_ways v u h) ]);
      }
