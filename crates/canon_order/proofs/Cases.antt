-- The definition tried on a worked case: an order of the tetrahedron.
use Rattle.std.proofs.Common.{◌≡◌, ◌≢◌, ℕ, zero, suc, ◌+◌, ◌<◌, ◌≤◌, List, [], ◌∷◌, take, get_or, AllPairs, Contains, refl, arith, lit<}
use Rattle.map_lists.specs.Lists.{Lists}
use Rattle.map_theory.specs.Maps.{HasDart, list_of, entry_after, follows}
use Rattle.map_theory.proofs.DartLemmas.{Contains-from_place_of}
use Rattle.map_theory.proofs.EntryLemmas.{AllPairs-append}
use Rattle.plane_peeling.specs.Restricted.{restricted, IsFaceOfThree, IsDartOfThree}
use Rattle.plane_peeling.specs.NearTriangulations.{IsOuterCycle}
use Rattle.plane_peeling.proofs.Rings.{each_of_one, each_of_two, each_of_three, AllPairs-put}
use Rattle.canon_order.specs.Orders.{stands_in, IsPutOn, IsMade, IsCanonicalOrder}
use Rattle.canon_order.proofs.Built.{topped, AllPairs-one}

abbrev tetrahedron : Lists
tetrahedron = (1 ∷ 2 ∷ 3 ∷ []) ∷ (0 ∷ 3 ∷ 2 ∷ []) ∷ (0 ∷ 1 ∷ 3 ∷ []) ∷ (0 ∷ 2 ∷ 1 ∷ []) ∷ []

-- an order for the dart from 0 to 1, and its cycles
abbrev at : List ℕ
at = 1 ∷ 0 ∷ 2 ∷ 3 ∷ []

abbrev cycle : ℕ → List ℕ
cycle = topped (topped (λ k. 1 ∷ 0 ∷ []) 3 (1 ∷ 2 ∷ 0 ∷ [])) 4 (1 ∷ 3 ∷ 0 ∷ [])

-- three different numbers repeat nothing
distinct_three : (a b c : ℕ) → a ≢ b → a ≢ c → b ≢ c → AllPairs ◌≢◌ (a ∷ b ∷ c ∷ [])
distinct_three a b c ab ac bc =
    AllPairs-put a (b ∷ c ∷ []) (λ h. each_of_two (λ z. a ≢ z) b c ab ac a h refl)
    (AllPairs-put b (c ∷ []) (λ h. each_of_one (λ z. b ≢ z) c bc b h refl) (AllPairs-one c))

-- ---- the cycles of the first three and of all
three_first : IsOuterCycle (restricted (stands_in (take 3 at)) tetrahedron) 1 0 (1 ∷ 2 ∷ 0 ∷ [])
unfolding entry_after
three_first =
    let map : Lists = restricted (stands_in (take 3 at)) tetrahedron in
    let ws : List ℕ = 1 ∷ 2 ∷ 0 ∷ [] in
    record {
      long = omega arith;
      first = refl;
      last = refl;
      distinct = distinct_three 1 2 0 (λ e. omega arith) (λ e. omega arith) (λ e. omega arith);
      darts = each_of_three (λ x. HasDart map x (entry_after x ws)) 1 2 0 (lit< tt, Contains-from_place_of 2 (list_of map 1) (lit< tt)) (lit< tt, Contains-from_place_of 0 (list_of map 2) (lit< tt)) (lit< tt, Contains-from_place_of 1 (list_of map 0) (lit< tt));
      turns = each_of_three (λ x. follows map (entry_after x ws) x ≡ entry_after (entry_after x ws) ws) 1 2 0 refl refl refl;
    }

all_four : IsOuterCycle (restricted (stands_in (take 4 at)) tetrahedron) 1 0 (1 ∷ 3 ∷ 0 ∷ [])
unfolding entry_after
all_four =
    let map : Lists = restricted (stands_in (take 4 at)) tetrahedron in
    let ws : List ℕ = 1 ∷ 3 ∷ 0 ∷ [] in
    record {
      long = omega arith;
      first = refl;
      last = refl;
      distinct = distinct_three 1 3 0 (λ e. omega arith) (λ e. omega arith) (λ e. omega arith);
      darts = each_of_three (λ x. HasDart map x (entry_after x ws)) 1 3 0 (lit< tt, Contains-from_place_of 3 (list_of map 1) (lit< tt)) (lit< tt, Contains-from_place_of 0 (list_of map 3) (lit< tt)) (lit< tt, Contains-from_place_of 1 (list_of map 0) (lit< tt));
      turns = each_of_three (λ x. follows map (entry_after x ws) x ≡ entry_after (entry_after x ws) ws) 1 3 0 refl refl refl;
    }

-- ---- the faces of the vertices that are put on
face_210 : IsFaceOfThree tetrahedron 2 1 0
unfolding entry_after
face_210 = record { dart = (lit< tt, Contains-from_place_of 1 (0 ∷ 1 ∷ 3 ∷ []) (lit< tt)); second = refl; third = refl; round = refl }

face_312 : IsFaceOfThree tetrahedron 3 1 2
unfolding entry_after
face_312 = record { dart = (lit< tt, Contains-from_place_of 1 (0 ∷ 2 ∷ 1 ∷ []) (lit< tt)); second = refl; third = refl; round = refl }

face_320 : IsFaceOfThree tetrahedron 3 2 0
unfolding entry_after
face_320 = record { dart = (lit< tt, Contains-from_place_of 2 (0 ∷ 2 ∷ 1 ∷ []) (lit< tt)); second = refl; third = refl; round = refl }

-- 2 over the base, and 3 over all
put_two : IsPutOn tetrahedron (take 3 at) 2 (1 ∷ 0 ∷ []) (1 ∷ 2 ∷ 0 ∷ [])
put_two =
    let map : Lists = restricted (stands_in (take 3 at)) tetrahedron in
    record {
      front = [];
      p = 1;
      middle = [];
      q = 0;
      back = [];
      before = refl;
      after = refl;
      fan = record {
        neighbours = λ u. (
          (λ d. each_of_two (λ x. Contains (1 ∷ 0 ∷ []) x) 0 1 (Contains-from_place_of 0 (1 ∷ 0 ∷ []) (lit< tt)) (Contains-from_place_of 1 (1 ∷ 0 ∷ []) (lit< tt)) u d.1),
          λ c. each_of_two (HasDart map 2) 1 0 (lit< tt, Contains-from_place_of 1 (0 ∷ 1 ∷ []) (lit< tt)) (lit< tt, Contains-from_place_of 0 (0 ∷ 1 ∷ []) (lit< tt)) u c,
        );
        faces = face_at;
      };
    }
  where
    face_at : (i : ℕ) → i < 0 + 1 → IsFaceOfThree tetrahedron 2 (get_or (1 ∷ 0 ∷ []) i 0) (get_or (1 ∷ 0 ∷ []) (i + 1) 0)
    face_at zero l = face_210
    face_at (suc i) l = absurd (omega (arith, l))

put_three : IsPutOn tetrahedron (take 4 at) 3 (1 ∷ 2 ∷ 0 ∷ []) (1 ∷ 3 ∷ 0 ∷ [])
put_three =
    let map : Lists = restricted (stands_in (take 4 at)) tetrahedron in
    record {
      front = [];
      p = 1;
      middle = 2 ∷ [];
      q = 0;
      back = [];
      before = refl;
      after = refl;
      fan = record {
        neighbours = λ u. (
          (λ d. each_of_three (λ x. Contains (1 ∷ 2 ∷ 0 ∷ []) x) 0 2 1 (Contains-from_place_of 0 (1 ∷ 2 ∷ 0 ∷ []) (lit< tt)) (Contains-from_place_of 2 (1 ∷ 2 ∷ 0 ∷ []) (lit< tt)) (Contains-from_place_of 1 (1 ∷ 2 ∷ 0 ∷ []) (lit< tt)) u d.1),
          λ c. each_of_three (HasDart map 3) 1 2 0 (lit< tt, Contains-from_place_of 1 (0 ∷ 2 ∷ 1 ∷ []) (lit< tt)) (lit< tt, Contains-from_place_of 2 (0 ∷ 2 ∷ 1 ∷ []) (lit< tt)) (lit< tt, Contains-from_place_of 0 (0 ∷ 2 ∷ 1 ∷ []) (lit< tt)) u c,
        );
        faces = face_at;
      };
    }
  where
    face_at : (i : ℕ) → i < 1 + 1 → IsFaceOfThree tetrahedron 3 (get_or (1 ∷ 2 ∷ 0 ∷ []) i 0) (get_or (1 ∷ 2 ∷ 0 ∷ []) (i + 1) 0)
    face_at zero l = face_312
    face_at (suc zero) l = face_320
    face_at (suc (suc i)) l = absurd (omega (arith, l))

outer_at : (k : ℕ) → 3 ≤ k → k ≤ 4 → IsOuterCycle (restricted (stands_in (take k at)) tetrahedron) 1 0 (cycle k)
outer_at x0 l m = grind (arith, three_first, all_four)

put_at : (k : ℕ) → 2 ≤ k → k < 4 → IsPutOn tetrahedron (take (suc k) at) (get_or at k 0) (cycle k) (cycle (suc k))
put_at zero l m = absurd (omega (arith, l))
put_at (suc zero) l m = absurd (omega (arith, l))
put_at (suc (suc zero)) l m = put_two
put_at (suc (suc (suc zero))) l m = put_three
put_at (suc (suc (suc (suc k)))) l m = absurd (omega (arith, m))

-- ---- each dart off the base's face is on one of the three faces
made_two : (x y : ℕ) → IsDartOfThree 2 1 0 x y → IsMade tetrahedron at cycle x y
made_two x y d = record { k = 2; i = 0; v = 2; a = 1; b = 0; later = omega arith; within = omega arith; vertex = refl; inside = omega arith; one = refl; next = refl; face = face_210; dart = d }

made_one : (x y : ℕ) → IsDartOfThree 3 1 2 x y → IsMade tetrahedron at cycle x y
made_one x y d = record { k = 3; i = 0; v = 3; a = 1; b = 2; later = omega arith; within = omega arith; vertex = refl; inside = omega arith; one = refl; next = refl; face = face_312; dart = d }

made_other : (x y : ℕ) → IsDartOfThree 3 2 0 x y → IsMade tetrahedron at cycle x y
made_other x y d = record { k = 3; i = 1; v = 3; a = 2; b = 0; later = omega arith; within = omega arith; vertex = refl; inside = omega arith; one = refl; next = refl; face = face_320; dart = d }

made : (x y : ℕ) → HasDart tetrahedron x y → ¬ IsDartOfThree 0 1 3 x y → IsMade tetrahedron at cycle x y
made x0 y d = grind (arith, each_of_three, IsDartOfThree, IsMade, tetrahedron, at, cycle, made_two, made_other, made_one)

-- so it is a canonical order
order_of_tetrahedron : IsCanonicalOrder tetrahedron (0, 1) at
unfolding entry_after
order_of_tetrahedron = record {
  count = refl;
  vertices = below;
  last = refl;
  cycle = cycle;
  built = record {
    once = AllPairs-append (1 ∷ 0 ∷ 2 ∷ []) (3 ∷ []) (distinct_three 1 0 2 (λ e. omega arith) (λ e. omega arith) (λ e. omega arith)) (AllPairs-one 3)
        (λ u c c'. each_of_three (λ z. z ≢ 3) 1 0 2 (λ e. omega arith) (λ e. omega arith) (λ e. omega arith) u c (each_of_one (λ z. z ≡ 3) 3 refl u c'));
    first = refl;
    second = refl;
    begin = refl;
    outer = outer_at;
    put = put_at;
  };
  faces = made;
}
  where
    below : (k d : ℕ) → k < 4 → get_or at k d < 4
    below zero d l = omega arith
    below (suc zero) d l = omega arith
    below (suc (suc zero)) d l = omega arith
    below (suc (suc (suc zero))) d l = omega arith
    below (suc (suc (suc (suc k)))) d l = absurd (omega (arith, l))
