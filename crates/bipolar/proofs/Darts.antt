-- Darts by their ids, and rows of right faces.
use Rattle.std.proofs.Common.{◌≡◌, ◌↔◌, ℕ, ◌+◌, ◌<◌, List, [], ◌∷◌, ◌++◌, length, get_or, take, Contains, Option, Some, refl, sym, ap, ◌∙◌, subst, inl, inr, arith}
use Rattle.euler_faces.proofs.SideMarks.{some_dart}
use Rattle.std.specs.Prelude.{option_map, IsSome, IsTrue, nat_lt, slice_get}
use Rattle.std.proofs.lemmas.Bool.{cases_lt, ltb-true, lt-ltb}
use Rattle.std.proofs.lemmas.Option.{get_or_from_slice_get, same_Some}
use Rattle.std.proofs.lemmas.List.{take_more, get_or_append_left, get_or_push, length-append}
use Rattle.std.proofs.lemmas.List.Elements.{Contains-append_left, Contains-push, Contains-push_cases}
use Rattle.map_theory.specs.Maps.{Dart, list_of, follows}
use Rattle.half_edges.specs.Map.{Map, IsHalfMap, dart_at, next_dart}
use Rattle.half_edges.proofs.ArenaLemmas.{entry_after-next}
use Rattle.half_edges.proofs.LinkLemmas.{tails_same}
use Rattle.bipolar.specs.FaceArcs.{InWalk, IsPutRight, AreRightFaces, IsLeftNumber, AreLeftNumbers}

-- the tail and the head that a map tells of an id
pub tail_is : (o : Option Dart) (u v t : ℕ) → o ≡ Some (u, v) → option_map (λ (d : Dart). d.0) o ≡ Some t → t ≡ u
tail_is o u v t e told = same_Some t u (sym told ∙ ap (option_map (λ (d : Dart). d.0)) e)

pub head_is : (o : Option Dart) (u v t : ℕ) → o ≡ Some (u, v) → option_map (λ (d : Dart). d.1) o ≡ Some t → t ≡ v
head_is o u v t e told = same_Some t v (sym told ∙ ap (option_map (λ (d : Dart). d.1)) e)

pub live_at : (o : Option Dart) (u v : ℕ) → o ≡ Some (u, v) → IsSome o
live_at o u v e = subst IsSome (sym e) refl

-- a comparison of two ranks
pub ranks_compared : (rank : List ℕ) (t h a b u v : ℕ) → slice_get rank t ≡ Some a → slice_get rank h ≡ Some b → t ≡ u → h ≡ v → IsTrue (nat_lt a b) ↔ (get_or rank u 0 < get_or rank v 0)
ranks_compared rank t h a b u v ta hb tu hv = grind (arith, get_or_from_slice_get, get_or, ltb-true, lt-ltb)

module _ (map : Map) (walks : List (List ℕ)) (rank ids : List ℕ) where
  -- one dart more
  pub AreRightFaces-more : (k d u v : ℕ) (row row' : List ℕ) → AreRightFaces map walks rank (take k ids) row → k < length ids → get_or ids k 0 ≡ d → dart_at map d ≡ Some (u, v) → IsPutRight map walks rank u v row row' → AreRightFaces map walks rank (take (k + 1) ids) row'
  AreRightFaces-more k d u v row row' w l here dart put =
      let grown : take (k + 1) ids ≡ take k ids ++ d ∷ [] = take_more ids k 0 l ∙ ap (λ z. take k ids ++ z ∷ []) here in
      let old : (x : ℕ) → Contains (take k ids) x → Contains (take (k + 1) ids) x = λ x c. subst (λ z. Contains z x) (sym grown) (Contains-append_left (take k ids) (d ∷ []) x c) in
      let mine : Contains (take (k + 1) ids) d = subst (λ z. Contains z d) (sym grown) (Contains-push (take k ids) d) in
      record {
        from = λ r c.
            let of_old : Contains row r → (x : ℕ) × (a : ℕ) × (b : ℕ) × Contains (take (k + 1) ids) x × (dart_at map x ≡ Some (a, b)) × (get_or rank a 0 < get_or rank b 0) × InWalk map walks r b a =
            λ c'. let f = w.from r c' in (f.0, f.1, f.2, old f.0 f.3, f.4, f.5, f.6) in
            elim (cases_lt (get_or rank u 0) (get_or rank v 0)) [
              | inr low ↦ of_old (subst (λ z. Contains z r) (put.down low) c)
              | inl up ↦
                  let new = put.up up in
                  elim (Contains-push_cases row new.0 r (subst (λ z. Contains z r) new.1 c)) [
                    | inl c' ↦ of_old c'
                    | inr same ↦ (d, u, v, mine, dart, up, subst (λ z. InWalk map walks z v u) same new.2)
                  ]
            ];
        to = λ x a b c e up'.
            let kept : (r : ℕ) → Contains row r → Contains row' r =
            λ r c'. elim (cases_lt (get_or rank u 0) (get_or rank v 0)) [
              | inr low ↦ subst (λ z. Contains z r) (sym (put.down low)) c'
              | inl up ↦ (let new = put.up up in subst (λ z. Contains z r) (sym new.1) (Contains-append_left row (new.0 ∷ []) r c'))
            ] in
            elim (Contains-push_cases (take k ids) d x (subst (λ z. Contains z x) grown c)) [
              | inl c' ↦ (let f = w.to x a b c' e up' in (f.0, kept f.0 f.1, f.2))
              | inr same ↦
                  let is = tails_same u a v b (dart_at map d) dart (ap (dart_at map) same ∙ e) in
                  let new = put.up (omega (arith, up', ap (λ z. get_or rank z 0) is.0, ap (λ z. get_or rank z 0) is.1)) in
                  (new.0, subst (λ z. Contains z new.0) (sym new.1) (Contains-push row new.0), subst (λ z. InWalk map walks new.0 z a) is.1 (subst (λ z. InWalk map walks new.0 v z) is.0 new.2))
            ];
      }

-- one number more in a row
pub AreLeftNumbers-more : (map : Map) (walks : List (List ℕ)) (rank numbers : List ℕ) (v x : ℕ) (row : List ℕ) → AreLeftNumbers map walks rank numbers v row → IsLeftNumber map walks rank numbers v (get_or (list_of map.lists v) (length row) 0) x → AreLeftNumbers map walks rank numbers v (row ++ x ∷ [])
AreLeftNumbers-more map walks rank numbers v x row w is = grind (arith, cases_lt, length, IsLeftNumber, get_or, list_of, get_or_append_left, length-append, get_or_push)

pub next_at : (map : Map) → IsHalfMap map → (v i : ℕ) (o o' : Option Dart) → v < length map.lists → o ≡ Some (v, get_or (list_of map.lists v) i 0) → o' ≡ option_map (next_dart map.lists) o → i + 1 < length (list_of map.lists v) → o' ≡ Some (v, get_or (list_of map.lists v) (i + 1) 0)
next_at map h v i o o' lv e step l =
    step ∙ (ap (option_map (next_dart map.lists)) e ∙ ap (λ z. Some (v, z)) (entry_after-next (list_of map.lists v) i (h.simple.no_repeat v lv) l))

pub next_live : (map : Map) (o o' : Option Dart) → IsSome o → o' ≡ option_map (next_dart map.lists) o → IsSome o'
next_live map o o' live step =
    let x = some_dart o live in
    live_at o' x.0 (follows map.lists x.0 x.1) (step ∙ ap (option_map (next_dart map.lists)) x.2)
