-- Darts by their ids, and rows of numbers as a table.
use Rattle.std.proofs.Common.{◌≡◌, ℕ, ◌+◌, ◌<◌, List, [], ◌∷◌, ◌++◌, length, get_or, Option, Some, refl, sym, ap, ◌∙◌, subst, inl, inr, arith, append_assoc, append-nil}
use Rattle.std.specs.Prelude.{option_map, IsSome}
use Rattle.std.proofs.lemmas.Bool.{cases_lt}
use Rattle.std.proofs.lemmas.List.{get_or_append_left, get_or_push, length-append}
use Rattle.classes.proofs.Classes.{Together}
use Rattle.map_lists.specs.Lists.{Lists}
use Rattle.map_theory.specs.Maps.{Dart, HasDart, twin_dart, list_of, follows, place_of, dart_number, face_classes}
use Rattle.map_theory.proofs.DartLemmas.{place_of-lt-length, get_or-place_of}
use Rattle.half_edges.specs.Map.{Map, IsHalfMap, dart_at, next_dart}
use Rattle.half_edges.proofs.ArenaLemmas.{entry_after-next}
use Rattle.euler_faces.specs.FaceWalks.{walk_at, first_number, AreFaces}
use Rattle.euler_faces.proofs.NumberLemmas.{number_at-is}
use Rattle.euler_faces.proofs.WalkFaces.{in_class, in_walk}
use Rattle.euler_faces.proofs.SideMarks.{some_dart}
use Rattle.convex_peeling.specs.Contours.{face_of}
use Rattle.convex_orders.specs.FaceNumbers.{entry, AreFaceNumbers, InWalk, AreOwn, AreOther, IsRowPut}

pub live_at : (o : Option Dart) (u v : ℕ) → o ≡ Some (u, v) → IsSome o
live_at o u v e = subst IsSome (sym e) refl

pub twin_at : (o o' : Option Dart) (u v : ℕ) → o ≡ Some (u, v) → o' ≡ option_map twin_dart o → o' ≡ Some (v, u)
twin_at o o' u v e step = step ∙ ap (option_map twin_dart) e

pub next_live : (map : Map) (o o' : Option Dart) → IsSome o → o' ≡ option_map (next_dart map.lists) o → IsSome o'
next_live map o o' s step = let x = some_dart o s in live_at o' x.0 (follows map.lists x.0 x.1) (step ∙ ap (option_map (next_dart map.lists)) x.2)

pub next_at : (map : Map) → IsHalfMap map → (v i : ℕ) (o o' : Option Dart) → v < length map.lists → o ≡ Some (v, get_or (list_of map.lists v) i 0) → o' ≡ option_map (next_dart map.lists) o → i + 1 < length (list_of map.lists v) → o' ≡ Some (v, get_or (list_of map.lists v) (i + 1) 0)
next_at map h v i o o' lv e step l = step ∙ (ap (option_map (next_dart map.lists)) e ∙ ap (λ z. Some (v, z)) (entry_after-next (list_of map.lists v) i (h.simple.no_repeat v lv) l))

-- one number more in a row
pub AreOwn-more : (map : Map) (walks : List (List ℕ)) (v x : ℕ) (row : List ℕ) → AreOwn map walks v row → InWalk map walks x v (get_or (list_of map.lists v) (length row) 0) → AreOwn map walks v (row ++ x ∷ [])
AreOwn-more map walks v x row w is = record {
  each = λ i l. elim (cases_lt i (length row)) [
    | inl less ↦ subst (λ z. InWalk map walks z v (get_or (list_of map.lists v) i 0)) (sym (get_or_append_left row (x ∷ []) 0 i less)) (w.each i less)
    | inr most ↦
        let e : i ≡ length row = omega (arith, most, l, length-append row (x ∷ [])) in
        subst (λ z. InWalk map walks (get_or (row ++ x ∷ []) z 0) v (get_or (list_of map.lists v) z 0)) (sym e)
        (subst (λ z. InWalk map walks z v (get_or (list_of map.lists v) (length row) 0)) (sym (get_or_push row x 0 (length row) refl)) is)
  ];
}

pub AreOther-more : (map : Map) (walks : List (List ℕ)) (v x : ℕ) (row : List ℕ) → AreOther map walks v row → InWalk map walks x (get_or (list_of map.lists v) (length row) 0) v → AreOther map walks v (row ++ x ∷ [])
AreOther-more map walks v x row w is = record {
  each = λ i l. elim (cases_lt i (length row)) [
    | inl less ↦ subst (λ z. InWalk map walks z (get_or (list_of map.lists v) i 0) v) (sym (get_or_append_left row (x ∷ []) 0 i less)) (w.each i less)
    | inr most ↦
        let e : i ≡ length row = omega (arith, most, l, length-append row (x ∷ [])) in
        subst (λ z. InWalk map walks (get_or (row ++ x ∷ []) z 0) (get_or (list_of map.lists v) z 0) v) (sym e)
        (subst (λ z. InWalk map walks z (get_or (list_of map.lists v) (length row) 0) v) (sym (get_or_push row x 0 (length row) refl)) is)
  ];
}

-- no number yet at the end of a row
pub IsRowPut-none : (P : List ℕ → Type 0) (entries : List ℕ) → P [] → IsRowPut P 0 entries entries
IsRowPut-none P entries none = record { row = []; grown = sym (append-nil entries); long = refl; is = none }

-- and one more
pub IsRowPut-more :
    (P : List ℕ → Type 0) (k x : ℕ) (old mid new : List ℕ) → new ≡ mid ++ x ∷ [] → ((row : List ℕ) → length row ≡ k → P row → P (row ++ x ∷ [])) → IsRowPut P k old mid → IsRowPut P (k + 1) old new
IsRowPut-more P k x old mid new grown more h = grind (arith, append_assoc, length-append)

module _ (map : Map) (h : IsHalfMap map) (walks : List (List ℕ)) (faces : AreFaces map walks) where
  abbrev lists : Lists
  lists = map.lists

  in_first : (f u v : ℕ) (x : InWalk map walks f u v) → Together (face_classes lists) (first_number map (walk_at walks f)) (dart_number lists (u, v))
  in_first f u v x =
      subst (Together (face_classes lists) (first_number map (walk_at walks f))) (number_at-is map x.1.0 u v x.1.2) (in_class map h (walk_at walks f) (faces.each f x.0) x.1.0 x.1.1)

  -- darts of one walk are in one face, and the other way about
  walk_face : (f u v a b : ℕ) → InWalk map walks f u v → InWalk map walks f a b → face_of lists u v ≡ face_of lists a b
  walk_face f u v a b x y = sym (in_first f u v x) ∙ in_first f a b y

  one_walk : (f g u v a b : ℕ) → InWalk map walks f u v → InWalk map walks g a b → face_of lists u v ≡ face_of lists a b → f ≡ g
  one_walk f g u v a b x y same =
      let together = in_first f u v x ∙ same in
      let there = subst (Together (face_classes lists) (first_number map (walk_at walks f))) (sym (number_at-is map y.1.0 a b y.1.2)) together in
      faces.apart f g y.1.0 x.0 y.0 (in_walk map h (walk_at walks f) (faces.each f x.0) y.1.0 (live_at (dart_at map y.1.0) a b y.1.2) there) y.1.1

  module _ (own other : Lists) (own_rows : length own ≡ length lists) (other_rows : length other ≡ length lists) (own_sizes : (v : ℕ) → v < length lists → length (list_of own v) ≡ length (list_of lists v)) (other_sizes : (v : ℕ) → v < length lists → length (list_of other v) ≡ length (list_of lists v)) (own_each : (v : ℕ) → v < length lists → AreOwn map walks v (list_of own v)) (other_each : (v : ℕ) → v < length lists → AreOther map walks v (list_of other v)) where
    own_at : (x y : ℕ) → HasDart lists x y → InWalk map walks (entry lists own x y) x y
    own_at x y has =
        let us = list_of lists x in
        let l = place_of-lt-length y us has.1 in
        subst (InWalk map walks (entry lists own x y) x) (get_or-place_of y us 0 l) ((own_each x has.0).each (place_of y us) (omega (arith, l, own_sizes x has.0)))

    other_at : (x y : ℕ) → HasDart lists x y → InWalk map walks (entry lists other x y) y x
    other_at x y has =
        let us = list_of lists x in
        let l = place_of-lt-length y us has.1 in
        subst (λ z. InWalk map walks (entry lists other x y) z x) (get_or-place_of y us 0 l) ((other_each x has.0).each (place_of y us) (omega (arith, l, other_sizes x has.0)))

    pub tables : AreFaceNumbers lists own other (length walks)
    tables = record {
      own_table = record { rows = own_rows; sizes = own_sizes; below = λ v i l m. ((own_each v l).each i m).0 };
      other_table = record { rows = other_rows; sizes = other_sizes; below = λ v i l m. ((other_each v l).each i m).0 };
      alike = λ x y u v has has'. (
        (λ e. walk_face (entry lists own u v) x y u v (subst (λ z. InWalk map walks z x y) e (own_at x y has)) (own_at u v has')),
        λ e. one_walk (entry lists own x y) (entry lists own u v) x y u v (own_at x y has) (own_at u v has') e,
      );
      back = λ x y has. one_walk (entry lists other x y) (entry lists own y x) y x y x (other_at x y has) (own_at y x (h.simple.both_ways x y has)) refl;
    }

-- what holds of each row holds with one row more
pub each_more : (P : ℕ → List ℕ → Type 0) (old new : Lists) (row : List ℕ) (v : ℕ) → length old ≡ v → new ≡ old ++ row ∷ [] → ((u : ℕ) → u < v → P u (list_of old u)) → P v row → (u : ℕ) → u < v + 1 → P u (list_of new u)
each_more P old new row v count grown before here u l = grind (arith, cases_lt, Lists, list_of, get_or_append_left, get_or_push)
