-- The darts from a vertex, put into a row one after another.
use Rattle.std.proofs.Common.{◌≡◌, ℕ, ◌+◌, ◌<◌, List, [], ◌∷◌, ◌++◌, length, get_or, map, Some, sym, ap, ◌∙◌, inl, inr, arith}
use Rattle.std.specs.Option.{option_map}
use Rattle.std.proofs.lemmas.Bool.{cases_lt}
use Rattle.std.proofs.lemmas.List.{get_or_append_left, get_or_push, length-append, map-append}
use Rattle.map_theory.specs.Maps.{list_of}
use Rattle.half_edges.specs.Map.{Map, IsHalfMap, IsLive, dart_at, next_dart}
use Rattle.half_edges.proofs.ArenaLemmas.{entry_after-next}
use Rattle.euler_faces.proofs.NumberLemmas.{live_from, some_of}
use Rattle.map_lists.specs.declared.ids.DartId.{DartId}
use Rattle.euler_faces.specs.FaceWalks.{ids_of}

pub next_at : (map : Map) → IsHalfMap map → (v i d e : ℕ) → v < length map.lists → dart_at map d ≡ Some (v, get_or (list_of map.lists v) i 0) → dart_at map e ≡ option_map (next_dart map.lists) (dart_at map d) → i + 1 < length (list_of map.lists v) → dart_at map e ≡ Some (v, get_or (list_of map.lists v) (i + 1) 0)
next_at map h v i d e lv is step l = step ∙ (ap (option_map (next_dart map.lists)) is ∙ ap (λ z. Some (v, z)) (entry_after-next (list_of map.lists v) i (h.simple.no_repeat v lv) l))

pub next_live : (map : Map) (d e : ℕ) → IsLive map d → dart_at map e ≡ option_map (next_dart map.lists) (dart_at map d) → IsLive map e
next_live map d e live step =
    let x = some_of (dart_at map d) live in
    live_from (dart_at map e) (next_dart map.lists x.0) (step ∙ ap (option_map (next_dart map.lists)) x.1)

pub ids_more : (ds new : List DartId) (d : DartId) → new ≡ ds ++ d ∷ [] → ids_of new ≡ ids_of ds ++ d.0 ∷ []
ids_more ds new d grown = ap ids_of grown ∙ map-append (λ (x : DartId). x.0) ds (d ∷ [])

-- the darts to the first entries
pub record IsRow (map : Map) (v k : ℕ) (row : List ℕ) : Type 0 where
  pub long : length row ≡ k
  pub each : (i : ℕ) → i < k → dart_at map (get_or row i 0) ≡ Some (v, get_or (list_of map.lists v) i 0)

-- and one more
pub IsRow-more : (map : Map) (v k d : ℕ) (row new : List ℕ) → new ≡ row ++ d ∷ [] → dart_at map d ≡ Some (v, get_or (list_of map.lists v) k 0) → IsRow map v k row → IsRow map v (k + 1) new
IsRow-more map v k d row new grown is h =
    let more = length-append row (d ∷ []) in
    let same = ap (λ (l : List ℕ). length l) grown in
    record {
      long = omega arith;
      each = λ i l. elim (cases_lt i k) [
        | inl less ↦ ap (λ (l : List ℕ). dart_at map (get_or l i 0)) grown ∙ (ap (dart_at map) (get_or_append_left row (d ∷ []) 0 i (omega arith)) ∙ h.each i less)
        | inr most ↦
            let e : i ≡ k = omega arith in
            ap (λ (l : List ℕ). dart_at map (get_or l i 0)) grown ∙ (ap (dart_at map) (get_or_push row d 0 i (omega arith)) ∙ (is ∙ ap (λ z. Some (v, get_or (list_of map.lists v) z 0)) (sym e)))
      ];
    }
