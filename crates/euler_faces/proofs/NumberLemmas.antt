-- Each id of a live dart has a number, each number an id, and the steps along a map are steps of numbers.
use Rattle.std.proofs.Common.{◌≡◌, ◌≢◌, ℕ, zero, suc, ◌+◌, ◌-◌, ◌*◌, ◌<◌, ◌≤◌, Bool, true, false, List, [], ◌∷◌, length, get_or, set, Option, Some, None, refl, sym, ap, ◌∙◌, inl, inr, arith, IsSome, option_map, unwrap_or, get_or-set_same, get_or-set_other}
use Rattle.std.proofs.lemmas.Bool.{cases_lt, eq-eqb}
use Rattle.std.proofs.lemmas.List.{get_or_past}
use Rattle.std.proofs.lemmas.Bool.Decides.{nat_tests}
use Rattle.classes.specs.Classes.{image}
use Rattle.map_theory.specs.Maps.{Dart, darts, dart_number, dart_count, darts_before, list_of, place_of, face_images, face_step, follows, same_dart}
use Rattle.map_theory.proofs.DartCounts.{dart_count-le}
use Rattle.map_theory.proofs.DartLemmas.{dart_number-lt, get_or-dart_number, IsDartNumber-darts, IsDartNumber, get_or-face_images, place_after, place_of-entry_after, place_of-lt-length, entry_after-place, darts_before_more, place_of-get_or}
use Rattle.classes.proofs.Marks.{SetsMark}
use Rattle.half_edges.specs.Map.{Map, IsHalfMap, IsLive, dart_at, next_dart, id_bound}
use Rattle.euler_faces.specs.Numbers.{number_at, slot_of, id_of, mark_at, mark_of}

-- an option that holds something holds it
pub some_of : {X : Type 0} (o : Option X) → IsSome o → (x : X) × (o ≡ Some x)
some_of None some = absurd (cc)
some_of (Some x) some = (x, refl)

pub live_from : {X : Type 0} (o : Option X) (x : X) → o ≡ Some x → IsSome o
live_from o x e = rw e refl

-- the number of an id's dart
pub number_at-is : (map : Map) (d v u : ℕ) → dart_at map d ≡ Some (v, u) → number_at map d ≡ dart_number map.lists (v, u)
number_at-is map d v u e = rw e refl

same_dart-true : (d e : Dart) → same_dart d e ≡ true → d ≡ e
same_dart-true (a, b) (x, y) t = grind (arith, nat_tests)

same_dart-refl : (a b : ℕ) → same_dart (a, b) (a, b) ≡ true
same_dart-refl a b = rw (eq-eqb a a refl, eq-eqb b b refl) refl

slot_at : (x y : ℕ) (z : Dart) (os : List (Option Dart)) (b : Bool) → same_dart z (x, y) ≡ b → get_or os (slot_of (x, y) os) None ≡ Some (x, y) → get_or (Some z ∷ os) (slot_of (x, y) (Some z ∷ os)) None ≡ Some (x, y)
slot_at x y z os true t later = rw t (ap Some (same_dart-true z (x, y) t))
slot_at x y z os false t later = rw t later

slot_of-le : (x y : ℕ) (os : List (Option Dart)) (d : ℕ) → get_or os d None ≡ Some (x, y) → get_or os (slot_of (x, y) os) None ≡ Some (x, y)
slot_of-le x y [] d e = absurd (cc)
slot_of-le x y (None ∷ os) zero e = absurd (cc)
slot_of-le x y (None ∷ os) (suc d) e = slot_of-le x y os d e
slot_of-le x y (Some z ∷ os) zero e = let s : z ≡ (x, y) = cc in rw (s, same_dart-refl x y) refl
slot_of-le x y (Some z ∷ os) (suc d) e = slot_at x y z os (same_dart z (x, y)) refl (slot_of-le x y os d e)

module _ (map : Map) (h : IsHalfMap map) where
  -- the dart of a number
  pub dart_of_number : (i : ℕ) → i < dart_count map.lists → IsDartNumber map.lists i (get_or (darts map.lists) i (0, 0))
  dart_of_number i l = IsDartNumber-darts map.lists i (0, 0) h.simple.no_repeat l

  -- the id of a number has the dart of that number
  pub id_of-is : (i : ℕ) → i < dart_count map.lists → dart_at map (id_of map i) ≡ Some (get_or (darts map.lists) i (0, 0))
  unfolding id_of
  id_of-is i l =
      let d = get_or (darts map.lists) i (0, 0) in
      let has = h.has_id d.0 d.1 (dart_of_number i l).is_dart in
      slot_of-le d.0 d.1 map.ids has.0 has.1

  -- the id of an id's number is that id
  pub id_of-number : (d v u : ℕ) → dart_at map d ≡ Some (v, u) → id_of map (dart_number map.lists (v, u)) ≡ d
  id_of-number d v u e =
      let is = h.is_dart d v u e in
      let l = dart_number-lt map.lists v u is in
      h.one_id (id_of map (dart_number map.lists (v, u))) d v u (id_of-is (dart_number map.lists (v, u)) l ∙ ap Some (get_or-dart_number map.lists v u (0, 0) is)) e

  -- the number of a live id is below the count of darts
  pub number_at-lt : (d : ℕ) → IsLive map d → number_at map d < dart_count map.lists
  number_at-lt d live =
      let x = some_of (dart_at map d) live in
      rw (number_at-is map d x.0.0 x.0.1 x.1) (dart_number-lt map.lists x.0.0 x.0.1 (h.is_dart d x.0.0 x.0.1 x.1))

  -- a live id is below the count of ids
  pub live-lt : (d : ℕ) → IsLive map d → d < id_bound map
  live-lt d live =
      elim (cases_lt d (length map.ids)) [
        | inl l ↦ (let few = h.few_ids in omega arith)
        | inr l ↦ absurd (let e = sym (get_or_past map.ids d None l) ∙ (some_of (dart_at map d) live).1 in cc)
      ]

  -- the mark of a live id set is the mark of its number set
  pub SetsMark-set : (marked : List Bool) (d : ℕ) → IsLive map d → d < length marked → SetsMark (dart_count map.lists) (mark_of map marked) (mark_of map (set marked d true)) (number_at map d)
  SetsMark-set marked d live l = grind (arith, some_of, dart_at, number_at-is, id_of-number, get_or-set_same, get_or-set_other, id_of, Some, get_or, darts, id_of-is, dart_of_number)

  -- where the mark of a number stands
  pub mark_of-number : (marked : List Bool) (d : ℕ) → IsLive map d → mark_of map marked (number_at map d) ≡ mark_at marked d
  mark_of-number marked d live =
      let x = some_of (dart_at map d) live in
      rw (number_at-is map d x.0.0 x.0.1 x.1, id_of-number d x.0.0 x.0.1 x.1) refl

  -- a step along a face is live
  pub face_step-live : (d e : ℕ) → IsLive map d → dart_at map e ≡ option_map (face_step map.lists) (dart_at map d) → IsLive map e
  face_step-live d e live step = let x = some_of (dart_at map d) live in rw (step, x.1) refl

  -- and is a step of the face images
  pub face_step-number : (d e : ℕ) → IsLive map d → dart_at map e ≡ option_map (face_step map.lists) (dart_at map d) → number_at map e ≡ image (face_images map.lists) (number_at map d)
  face_step-number d e live step =
      let x = some_of (dart_at map d) live in
      let is = h.is_dart d x.0.0 x.0.1 x.1 in
      number_at-is map e (face_step map.lists x.0).0 (face_step map.lists x.0).1 (step ∙ ap (option_map (face_step map.lists)) x.1)
      ∙ ap (λ (y : Dart). dart_number map.lists (face_step map.lists y)) (sym (get_or-dart_number map.lists x.0.0 x.0.1 (0, 0) is))
      ∙ sym (get_or-face_images map.lists (dart_number map.lists x.0) (dart_number map.lists x.0) (0, 0) (dart_number-lt map.lists x.0.0 x.0.1 is))
      ∙ ap (image (face_images map.lists)) (sym (number_at-is map d x.0.0 x.0.1 x.1))

place_after-zero : (n k : ℕ) → k < n → place_after n k ≡ 0 → k + 1 ≡ n
place_after-zero n k l e = grind (arith, nat_tests)

place_after-inside : (n k : ℕ) → k + 1 < n → place_after n k ≡ k + 1
place_after-inside n k l = grind (arith, nat_tests)

module _ (map : Map) (h : IsHalfMap map) (d e first v : ℕ) (live : IsLive map d) (step : dart_at map e ≡ option_map (next_dart map.lists) (dart_at map d)) (u : ℕ) (is : dart_at map d ≡ Some (v, u)) (begins : dart_at map first ≡ Some (v, get_or (list_of map.lists v) 0 0)) where
  -- the clockwise next dart is from the same vertex
  pub next-dart : dart_at map e ≡ Some (v, follows map.lists v u)
  next-dart = step ∙ ap (option_map (next_dart map.lists)) is

  next-place : place_of (follows map.lists v u) (list_of map.lists v) ≡ place_after (length (list_of map.lists v)) (place_of u (list_of map.lists v))
  next-place =
      let has = h.is_dart d v u is in
      place_of-entry_after u (list_of map.lists v) (h.simple.no_repeat v has.0) has.1

  -- where the round is back at the first dart, the last dart has been met
  pub next-back : e ≡ first → number_at map d + 1 ≡ darts_before map.lists (v + 1)
  next-back back =
      let has = h.is_dart d v u is in
      let same : Some (v, follows map.lists v u) ≡ Some (v, get_or (list_of map.lists v) 0 0) = sym next-dart ∙ ap (dart_at map) back ∙ begins in
      let heads : follows map.lists v u ≡ get_or (list_of map.lists v) 0 0 = ap (λ (o : Option Dart). (unwrap_or o (0, 0)).1) same in
      let within = place_of-lt-length u (list_of map.lists v) has.1 in
      let zero_place : place_of (get_or (list_of map.lists v) 0 0) (list_of map.lists v) ≡ 0 = place_of-get_or (list_of map.lists v) 0 0 (h.simple.no_repeat v has.0) (omega arith) in
      let at_zero : place_after (length (list_of map.lists v)) (place_of u (list_of map.lists v)) ≡ 0 = sym next-place ∙ ap (λ (x : ℕ). place_of x (list_of map.lists v)) heads ∙ zero_place in
      let last = place_after-zero (length (list_of map.lists v)) (place_of u (list_of map.lists v)) within at_zero in
      rw (number_at-is map d v u is) (omega (arith, darts_before_more map.lists v))

  -- else the next dart has the next number
  pub next-number : e ≢ first → number_at map e ≡ number_at map d + 1
  next-number other = grind (arith, place_of-lt-length, list_of, cases_lt, place_of, length, next-place, place_after-inside, number_at-is, follows, next-dart, Some, entry_after-place)

-- a step of a round: the next dart is one of the vertex too, and the darts before it are those before this one and itself
module _ (map : Map) (h : IsHalfMap map) (d e first v : ℕ) (dart : (u : ℕ) × (dart_at map d ≡ Some (v, u))) (step : dart_at map e ≡ option_map (next_dart map.lists) (dart_at map d)) (begins : dart_at map first ≡ Some (v, get_or (list_of map.lists v) 0 0)) where
  live_here : IsLive map d
  live_here = live_from (dart_at map d) (v, dart.0) dart.1

  pub round-dart : (u : ℕ) × (dart_at map e ≡ Some (v, u))
  round-dart = (follows map.lists v dart.0, next-dart map h d e first v live_here step dart.0 dart.1 begins)

  pub round-ends : e ≡ first → number_at map d + 1 ≡ darts_before map.lists (v + 1)
  round-ends = next-back map h d e first v live_here step dart.0 dart.1 begins

  pub round-number : e ≢ first → number_at map e ≡ number_at map d + 1
  round-number = next-number map h d e first v live_here step dart.0 dart.1 begins

  pub round-less : e ≢ first → dart_count map.lists - number_at map e < dart_count map.lists - number_at map d
  round-less other = omega (arith, round-number other, number_at-lt map h d live_here)

-- there are no darts at a vertex without neighbours
pub none_at : (map : Map) (v : ℕ) → list_of map.lists v ≡ [] → darts_before map.lists (v + 1) ≡ darts_before map.lists v
none_at map v none = omega (arith, darts_before_more map.lists v, ap length none)

-- there are at most 4095 * 4095 darts
pub few_darts : (map : Map) → IsHalfMap map → dart_count map.lists ≤ 16769025
few_darts map h =
    let le = dart_count-le map.lists h.simple.in_range h.simple.no_repeat in
    let square : length map.lists * length map.lists ≤ 4095 * 4095 = grind arith in
    omega arith
