-- Steps round a vertex: behind each entry of its list comes the next one, and behind the last the first.
use Rattle.std.proofs.Common.{◌≡◌, ◌≢◌, ℕ, ◌+◌, ◌<◌, List, [], ◌∷◌, length, Option, Some, unwrap_or, get_or, refl, sym, ap, ◌∙◌, arith}
use Rattle.std.specs.Option.{option_map}
use Rattle.map_theory.specs.Maps.{Dart, list_of, follows, place_of}
use Rattle.map_theory.proofs.DartLemmas.{darts_before_more, place_of-here, place_of-lt-length, get_or-place_of}
use Rattle.half_edges.specs.Map.{Map, IsHalfMap, IsLive, dart_at, next_dart, first_dart}
use Rattle.euler_faces.proofs.NumberLemmas.{number_at-is, next-dart, next-back, next-number}
use Rattle.vertex_rounds.specs.Rounds.{IsLaterDart}

module _ (map : Map) (h : IsHalfMap map) (d e first v u : ℕ) (live : IsLive map d) (step : dart_at map e ≡ option_map (next_dart map.lists) (dart_at map d)) (begins : dart_at map first ≡ Some (first_dart map.lists v)) (is : dart_at map d ≡ Some (v, u)) where
  -- back at the first entry, the last one was met
  pub last_place : e ≡ first → place_of u (list_of map.lists v) + 1 ≡ length (list_of map.lists v)
  last_place back =
      let n = next-back map h d e first v live step u is begins back in
      let at = number_at-is map d v u is in
      let more = darts_before_more map.lists v in
      omega arith

  -- else the next entry stands behind
  pub later_place : e ≢ first → IsLaterDart map v u e
  later_place other =
      let n = next-number map h d e first v live step u is begins other in
      let to = next-dart map h d e first v live step u is begins in
      let at = number_at-is map d v u is in
      let at' = number_at-is map e v (follows map.lists v u) to in
      record { dart = to; place = omega arith }

-- the head of the dart of an id
abbrev pub head_at : Map → ℕ → ℕ
head_at map d = (unwrap_or (dart_at map d) (0, 0)).1

-- a dart from v, by its head
abbrev pub LeavesFrom : Map → ℕ → ℕ → Type 0
LeavesFrom map v d = dart_at map d ≡ Some (v, head_at map d)

-- the place of its head in v's list
abbrev pub place_at : Map → ℕ → ℕ → ℕ
place_at map v d = place_of (head_at map d) (list_of map.lists v)

pub head_at-is : (map : Map) (v u d : ℕ) → dart_at map d ≡ Some (v, u) → head_at map d ≡ u
head_at-is map v u d is = ap (λ (o : Option Dart). (unwrap_or o (0, 0)).1) is

pub LeavesFrom-is : (map : Map) (v u d : ℕ) → dart_at map d ≡ Some (v, u) → LeavesFrom map v d
LeavesFrom-is map v u d is = is ∙ ap (λ (x : ℕ). Some (v, x)) (sym (head_at-is map v u d is))

place_of-first : (us : List ℕ) → place_of (get_or us 0 0) us ≡ 0
place_of-first [] = refl
place_of-first (u ∷ us) = place_of-here u u us refl

-- the first dart stands at place 0
pub place_at-first : (map : Map) (v d : ℕ) → dart_at map d ≡ Some (first_dart map.lists v) → place_at map v d ≡ 0
place_at-first map v d is = ap (λ (x : ℕ). place_of x (list_of map.lists v)) (head_at-is map v (get_or (list_of map.lists v) 0 0) d is) ∙ place_of-first (list_of map.lists v)

-- the head of a dart from v stands at its place
pub at_place : (map : Map) → IsHalfMap map → (v d : ℕ) → LeavesFrom map v d → (place_at map v d < length (list_of map.lists v)) × (get_or (list_of map.lists v) (place_at map v d) 0 ≡ head_at map d)
at_place map h v d is =
    let l = place_of-lt-length (head_at map d) (list_of map.lists v) (h.is_dart d v (head_at map d) is).1 in
    (l, get_or-place_of (head_at map d) (list_of map.lists v) 0 l)

-- the next one stands at the next place
pub place_at-later : (map : Map) (v d e : ℕ) → IsLaterDart map v (head_at map d) e → place_at map v e ≡ place_at map v d + 1
place_at-later map v d e l =
    ap (λ (x : ℕ). place_of x (list_of map.lists v)) (head_at-is map v (follows map.lists v (head_at map d)) e l.dart) ∙ l.place

pub LeavesFrom-later : (map : Map) (v d e : ℕ) → IsLaterDart map v (head_at map d) e → LeavesFrom map v e
LeavesFrom-later map v d e l = LeavesFrom-is map v (follows map.lists v (head_at map d)) e l.dart

-- what a call of `head` answers for it
pub head_at-result : (map : Map) (v d x : ℕ) → LeavesFrom map v d → option_map (λ (e : Dart). e.1) (dart_at map d) ≡ Some x → head_at map d ≡ x
head_at-result map v d x is e =
    let t : Some (head_at map d) ≡ Some x = sym (ap (option_map (λ (e : Dart). e.1)) is) ∙ e in
    cc
