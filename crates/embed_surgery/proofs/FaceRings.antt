-- The ring of a face: the walk along it, up to where it is back.
use Rattle.std.proofs.Common.{◌≡◌, ◌≢◌, ℕ, zero, suc, ◌+◌, ◌-◌, ◌<◌, ◌≤◌, ltb, List, length, map, get_or, AllPairs, Contains, sym, ap, ap₂, ◌∙◌, subst, inl, inr, arith, lt-ltb, le-ltb}
use Rattle.std.specs.List.{range_with_len}
use Rattle.std.proofs.lemmas.Bool.{cases_eq, cases_lt, cond-true, cond-false}
use Rattle.std.proofs.lemmas.List.{length-map, get_or-map}
use Rattle.std.proofs.lemmas.List.FromFn.{length-range_with_len, get_or-range_with_len}
use Rattle.classes.specs.Classes.{image}
use Rattle.classes.proofs.Classes.{same_class-from}
use Rattle.classes.proofs.Orbits.{IsPermuting, IsPermuting-image}
use Rattle.classes.proofs.Walks.{walk, IsAway, IsAway-more, walk-lt, walk_apart, walk_returns, walk-together, visited_is_orbit, visited_at}
use Rattle.map_lists.specs.Lists.{Lists}
use Rattle.map_theory.specs.Maps.{Dart, HasDart, IsSimpleMap, follows, dart_number, dart_count, face_step, face_images, face_classes, place_of, entry_after}
use Rattle.map_theory.specs.Paths.{SameFace}
use Rattle.map_theory.proofs.DartLemmas.{dart_number-lt, get_or-dart_number, HasDart-face_step, length-face_images, get_or-face_images, IsPermutationOfBelow-face_images, entry_after-place, place_of-get_or, place_after}
use Rattle.map_theory.proofs.DartPermutations.{dart_of, dart_of-number}
use Rattle.embed_surgery.proofs.Holes.{IsRing, IsRingOf}

-- the first return of a walk
first_return : (f : ℕ → ℕ) (k : ℕ) → IsPermuting f k → (a : ℕ) → a < k → (spare n : ℕ) → n + spare ≡ k → IsAway f a n → (m : ℕ) × (walk f a (suc m) ≡ a) × IsAway f a m
first_return f k w a l zero n e away = absurd (walk_returns f k w a l (subst (IsAway f a) (omega arith) away))
first_return f k w a l (suc spare) n e away =
    elim (cases_eq (walk f a (suc n)) a) [
      | inl back ↦ (n, back, away)
      | inr ne ↦ first_return f k w a l spare (suc n) (omega arith) (IsAway-more f a n away ne)
    ]

module _ (lists : Lists) (simple : IsSimpleMap lists) (u v : ℕ) (has : HasDart lists u v) where
  abbrev f : ℕ → ℕ
  f = image (face_images lists)

  abbrev k : ℕ
  k = dart_count lists

  abbrev a : ℕ
  a = dart_number lists (u, v)

  len : length (face_images lists) ≡ k
  len = length-face_images lists

  w : IsPermuting f k
  w = subst (IsPermuting f) len (IsPermuting-image (face_images lists) (IsPermutationOfBelow-face_images lists simple))

  in_a : a < k
  in_a = dart_number-lt lists u v has

  abbrev at : ℕ → ℕ
  at i = walk f a i

  in_at : (i : ℕ) → at i < k
  in_at i = walk-lt f k w.within a i in_a

  abbrev dart : ℕ → Dart
  dart i = dart_of lists (at i)

  abbrev t : ℕ → ℕ
  t i = (dart i).0

  dart_is : (i : ℕ) → HasDart lists (dart i).0 (dart i).1
  dart_is i = (dart_of-number lists simple (at i) (in_at i)).is_dart

  dart_next : (i : ℕ) → dart (suc i) ≡ face_step lists (dart i)
  dart_next i =
      let next = HasDart-face_step lists (dart i) simple (dart_is i) in
      ap (dart_of lists) (get_or-face_images lists (at i) (at i) (0, 0) (in_at i)) ∙ get_or-dart_number lists (face_step lists (dart i)).0 (face_step lists (dart i)).1 (0, 0) next

  head_is : (i : ℕ) → (dart i).1 ≡ t (suc i)
  head_is i = sym (ap (λ (d : Dart). d.0) (dart_next i))

  dart_at : (i : ℕ) → HasDart lists (t i) (t (suc i))
  dart_at i = subst (HasDart lists (t i)) (head_is i) (dart_is i)

  turn_at : (i : ℕ) → follows lists (t (suc i)) (t i) ≡ t (suc (suc i))
  turn_at i = ap (λ x. follows lists x (t i)) (sym (head_is i)) ∙ (sym (ap (λ (d : Dart). d.1) (dart_next i)) ∙ head_is (suc i))

  number_at : (i : ℕ) → dart_number lists (t i, t (suc i)) ≡ at i
  number_at i = ap (λ x. dart_number lists (t i, x)) (sym (head_is i)) ∙ (dart_of-number lists simple (at i) (in_at i)).number

  -- the darts met are of the face
  face_at : (i : ℕ) → SameFace lists (u, v) (t i, t (suc i))
  face_at i =
      same_class-from (face_classes lists) a (dart_number lists (t i, t (suc i)))
      (walk-together (face_images lists) (IsPermutationOfBelow-face_images lists simple) a i (omega (arith, len, in_a)) ∙ ap (λ x. get_or (face_classes lists) x x) (sym (number_at i)))

  module _ (n : ℕ) (back : at (suc n) ≡ a) (away : IsAway f a n) (once : (x b c : ℕ) → HasDart lists x b → HasDart lists x c → SameFace lists (u, v) (x, b) → SameFace lists (u, v) (x, c) → b ≡ c) where
    abbrev ws : List ℕ
    ws = map t (range_with_len 0 (suc n))

    size : length ws ≡ suc n
    size = length-map {B = ℕ} (range_with_len 0 (suc n)) t ∙ length-range_with_len 0 (suc n)

    entry : (i d : ℕ) → i < suc n → get_or ws i d ≡ t i
    entry i d l =
        get_or-map {Y = ℕ} t (range_with_len 0 (suc n)) i 0 d (let r = length-range_with_len 0 (suc n) in omega arith)
        ∙ ap t (get_or-range_with_len 0 (suc n) i 0 l ∙ omega arith)

    -- one vertex, one step
    apart : (i j : ℕ) → i < j → j < suc n → t i ≢ t j
    apart i j l m e =
        let face = subst (λ x. SameFace lists (u, v) (x, t (suc j))) (sym e) (face_at j) in
        let heads = once (t i) (t (suc i)) (t (suc j)) (dart_at i) (subst (λ x. HasDart lists x (t (suc j))) (sym e) (dart_at j)) (face_at i) face in
        let same : at i ≡ at j = sym (number_at i) ∙ (ap₂ (λ x y. dart_number lists (x, y)) e heads ∙ number_at j) in
        let d = j - i in
        let s : j ≡ d + i = omega arith in
        away d (omega arith) (omega arith) (walk_apart f k w a in_a i d (same ∙ ap at s))

    distinct : AllPairs ◌≢◌ ws
    distinct i j d l m e =
        let z = size in
        apart i j l (omega arith) (sym (entry i d (omega arith)) ∙ (e ∙ entry j d (omega arith)))

    next_within : (i : ℕ) → i < suc n → entry_after (t i) ws ≡ t (suc i)
    next_within i l =
        let z = size in
        let place : place_of (t i) ws ≡ i = ap (λ x. place_of x ws) (sym (entry i 0 l)) ∙ place_of-get_or ws i 0 distinct (omega arith) in
        let after = entry_after-place (t i) ws 0 (omega arith) in
        let which = ap₂ (λ x y. get_or ws (place_after x y) 0) z place in
        grind (arith, cases_lt, place_after, cond-true, ltb, lt-ltb, get_or, ws, entry, cond-false, le-ltb, dart_of, at)

    next_at : (i : ℕ) → i ≤ suc n → entry_after (t i) ws ≡ t (suc i)
    next_at i l =
        elim (cases_eq i (suc n)) [
          | inr ne ↦ next_within i (omega arith)
          | inl e ↦
              let same : at i ≡ a = ap at e ∙ back in
              ap (λ x. entry_after (dart_of lists x).0 ws) same ∙ (next_within 0 (omega arith) ∙ ap (λ x. (dart_of lists (f x)).0) (sym same))
        ]

    place_in : (x : ℕ) → Contains ws x → (i : ℕ) × (i < suc n) × (t i ≡ x)
    place_in x c = let z = size in let l = c.1 in (c.0, omega arith, sym (entry c.0 x (omega arith)) ∙ c.2)

    on_at : (i : ℕ) → i < suc n → Contains ws (t i)
    on_at i l = let z = size in (i, omega arith, entry i (t i) l)

    ring : IsRing lists ws
    ring = record {
      distinct = distinct;
      darts = λ x c.
          let p = place_in x c in
          subst (λ y. HasDart lists y (entry_after y ws)) p.2 (subst (HasDart lists (t p.0)) (sym (next_at p.0 (omega arith))) (dart_at p.0));
      turns = λ x c.
          let p = place_in x c in
          let one = next_at p.0 (omega arith) in
          subst (λ y. follows lists (entry_after y ws) y ≡ entry_after (entry_after y ws) ws) p.2
          (ap (λ y. follows lists y (t p.0)) one ∙ (turn_at p.0 ∙ (sym (next_at (suc p.0) (omega arith)) ∙ ap (λ y. entry_after y ws) (sym one))));
    }

    start : dart 0 ≡ (u, v)
    start = get_or-dart_number lists u v (0, 0) has

    ring_of : IsRingOf lists u v ws
    ring_of = record {
      ring = ring;
      on = subst (Contains ws) (ap (λ (d : Dart). d.0) start) (on_at 0 (omega arith));
      next = ap (λ (d : Dart). entry_after d.0 ws) (sym start) ∙ (next_at 0 (omega arith) ∙ (sym (head_is 0) ∙ ap (λ (d : Dart). d.1) start));
      all = λ x y d face.
          let m = dart_number-lt lists x y d in
          let l = in_a in
          let z = len in
          let seen = visited_is_orbit (face_images lists) (IsPermutationOfBelow-face_images lists simple) a (suc n) (omega arith) (omega arith) back (dart_number lists (x, y)) (omega arith) in
          let found = visited_at f a (suc n) (dart_number lists (x, y)) (seen ∙ face) in
          let here : dart found.0 ≡ (x, y) = ap (dart_of lists) found.2 ∙ get_or-dart_number lists x y (0, 0) d in
          let tail = ap (λ (e : Dart). e.0) here in (
            subst (Contains ws) tail (on_at found.0 found.1),
            ap (λ z. entry_after z ws) (sym tail) ∙ (next_at found.0 (omega arith) ∙ (sym (head_is found.0) ∙ ap (λ (e : Dart). e.1) here)),
          );
    }

-- A face that passes no vertex twice is a ring.
pub face_is_ring : (lists : Lists) (u v : ℕ) → IsSimpleMap lists → HasDart lists u v → ((x a b : ℕ) → HasDart lists x a → HasDart lists x b → SameFace lists (u, v) (x, a) → SameFace lists (u, v) (x, b) → a ≡ b) → (ws : List ℕ) × IsRingOf lists u v ws
face_is_ring lists u v simple has once =
    let r = first_return (f lists simple u v has) (k lists simple u v has) (w lists simple u v has) (a lists simple u v has) (in_a lists simple u v has) (dart_count lists) 0 (omega arith) (λ i pos l. absurd (omega arith)) in
    (ws lists simple u v has r.0 r.1 r.2 once, ring_of lists simple u v has r.0 r.1 r.2 once)
