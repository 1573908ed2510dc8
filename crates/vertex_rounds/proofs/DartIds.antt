-- The dart of a live id.
use Rattle.std.proofs.Common.{◌≡◌, ℕ, Option, Some, unwrap_or, sym, ap, subst, ◌∙◌}
use Rattle.std.specs.Option.{option_map}
use Rattle.map_theory.specs.Maps.{Dart, HasDart, follows, face_step}
use Rattle.map_theory.proofs.DartLemmas.{HasDart-follows}
use Rattle.half_edges.specs.Map.{Map, IsHalfMap, IsLive, dart_at, next_dart}
use Rattle.euler_faces.proofs.NumberLemmas.{some_of}
use Rattle.vertex_rounds.specs.Rounds.{dart_of}

pub dart_of-live : (map : Map) (d : ℕ) → IsLive map d → dart_at map d ≡ Some (dart_of map d)
dart_of-live map d live = let x = some_of (dart_at map d) live in x.1 ∙ ap (λ (e : Dart). Some e) (sym (ap (λ (o : Option Dart). unwrap_or o (0, 0)) x.1))

pub dart_of-is : (map : Map) (d : ℕ) (x : Dart) → dart_at map d ≡ Some x → dart_of map d ≡ x
dart_of-is map d x is = ap (λ (o : Option Dart). unwrap_or o (0, 0)) is

pub has_dart : (map : Map) → IsHalfMap map → (d : ℕ) → IsLive map d → HasDart map.lists (dart_of map d).0 (dart_of map d).1
has_dart map h d live = h.is_dart d (dart_of map d).0 (dart_of map d).1 (dart_of-live map d live)

-- its tail and its head, as the calls of a map answer them
pub tail_is : (map : Map) (d x : ℕ) → IsLive map d → option_map (λ (e : Dart). e.0) (dart_at map d) ≡ Some x → (dart_of map d).0 ≡ x
tail_is map d x live e =
    let t : Some (dart_of map d).0 ≡ Some x = sym (ap (option_map (λ (y : Dart). y.0)) (dart_of-live map d live)) ∙ e in
    cc

pub head_is : (map : Map) (d x : ℕ) → IsLive map d → option_map (λ (e : Dart). e.1) (dart_at map d) ≡ Some x → (dart_of map d).1 ≡ x
head_is map d x live e =
    let t : Some (dart_of map d).1 ≡ Some x = sym (ap (option_map (λ (y : Dart). y.1)) (dart_of-live map d live)) ∙ e in
    cc

pub ends_are : (map : Map) (d a b : ℕ) → IsLive map d → option_map (λ (e : Dart). e.0) (dart_at map d) ≡ Some a → option_map (λ (e : Dart). e.1) (dart_at map d) ≡ Some b → (a, b) ≡ dart_of map d
ends_are map d a b live ea eb = ap (λ (x : ℕ). (x, b)) (sym (tail_is map d a live ea)) ∙ ap (λ (x : ℕ). ((dart_of map d).0, x)) (sym (head_is map d b live eb))

-- the head of the clockwise next dart is the next entry
pub next_head : (map : Map) → IsHalfMap map → (d e w : ℕ) → IsLive map d → dart_at map e ≡ option_map (next_dart map.lists) (dart_at map d) → option_map (λ (x : Dart). x.1) (dart_at map e) ≡ Some w
    → (follows map.lists (dart_of map d).0 (dart_of map d).1 ≡ w) × HasDart map.lists (dart_of map d).0 w
next_head map h d e w live step head =
    let v = (dart_of map d).0 in
    let u = (dart_of map d).1 in
    let to : dart_at map e ≡ Some (v, follows map.lists v u) = step ∙ ap (option_map (next_dart map.lists)) (dart_of-live map d live) in
    let t : Some (follows map.lists v u) ≡ Some w = sym (ap (option_map (λ (x : Dart). x.1)) to) ∙ head in
    let same : follows map.lists v u ≡ w = cc in
    (same, subst (λ (x : ℕ). HasDart map.lists v x) same (HasDart-follows map.lists v u (has_dart map h d live)))

-- the head of the next dart along a face is what follows the dart's tail at its head
pub face_next_head : (map : Map) → IsHalfMap map → (d e a b w : ℕ) → dart_at map d ≡ Some (a, b) → dart_at map e ≡ option_map (face_step map.lists) (dart_at map d) → option_map (λ (x : Dart). x.1) (dart_at map e) ≡ Some w
    → (follows map.lists b a ≡ w) × HasDart map.lists b w
face_next_head map h d e a b w is step head =
    let same : follows map.lists b a ≡ w = cc in
    (same, subst (λ (x : ℕ). HasDart map.lists b x) same (h.is_dart e b (follows map.lists b a) (step ∙ ap (option_map (face_step map.lists)) is)))
