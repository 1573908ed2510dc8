-- What the tables of a map say of its darts and their ids.
use Rattle.std.proofs.Common.{None, ℕ, zero, suc, ◌+◌, ◌/◌, ◌<◌, ◌≤◌, ◌≡◌, cond, ltb, List, [], ◌∷◌, length, get_or, slice_get, Option, Some, option_map, refl, sym, ap, ◌∙◌, arith}
use Rattle.std.proofs.lemmas.List.{length-map}
use Rattle.std.proofs.lemmas.Option.{slice_get-get_or, slice_get_within, get_or_from_slice_get}
use Rattle.std.proofs.lemmas.Bool.Decides.{nat_tests}
use Rattle.map_lists.specs.Lists.{Lists}
use Rattle.map_theory.specs.Maps.{Dart, list_of, HasDart, darts, darts_before, dart_count, dart_number, edge_count, place_of, follows}
use Rattle.map_theory.proofs.DartLemmas.{length-darts, IsDartNumber-darts, dart_at_place, place_after, place_after-lt, darts_before_end, place_of-lt-length, entry_after-place, darts_before_more}
use Rattle.map_theory.proofs.DartCounts.{dart_count-edge_count, few_darts-simple}
use Rattle.half_edges.specs.Map.{AreMapFacts, Map, dart_at, IsHalfMap, next_dart}
use Rattle.simple_maps.specs.Tables.{AreTables}
use Rattle.half_edges.specs.Tables.{map_of, ids_of}
use Rattle.simple_maps.proofs.TwinLemmas.{HasDart-from_slice_get, slice_get-dart_number}

-- the dart of an id is that of its number
pub dart_at-map_of : (lists : Lists) (ends : List Dart) (d : ℕ) → get_or (ids_of ends) d None ≡ slice_get ends d
dart_at-map_of lists [] d = refl
dart_at-map_of lists (e ∷ ends) zero = refl
dart_at-map_of lists (e ∷ ends) (suc d) = dart_at-map_of lists ends d

-- the number after and before the k-th of n numbers from s on, cyclically
number_after-place : (s n k : ℕ) → k < n → cond (ltb (s + k + 1) (s + n)) (s + k + 1) s ≡ s + place_after n k
number_after-place s n k h = grind (arith, nat_tests)

module _ (lists : Lists) (starts : List ℕ) (ends : List Dart) (twins : List ℕ) (t : AreTables lists starts ends twins) where
  length-ends : length ends ≡ dart_count lists
  length-ends = ap length t.ends_are ∙ length-darts lists

  pub few_ends : length ends < 16777216
  few_ends = omega (arith, length-ends, few_darts-simple lists t.few_vertices t.simple)

  -- there are half as many edges
  pub half_of_ends : length ends / 2 ≡ edge_count lists
  half_of_ends = ap (λ n. n / 2) length-ends

  number_of : (d v u : ℕ) → slice_get ends d ≡ Some (v, u) → d ≡ dart_number lists (v, u)
  number_of d v u found =
      let in_darts : d < dart_count lists = omega (arith, length-ends, slice_get_within ends d (v, u) found) in
      let same : get_or (darts lists) d (v, u) ≡ (v, u) = ap (λ ds. get_or ds d (v, u)) (sym t.ends_are) ∙ get_or_from_slice_get ends d (v, u) (v, u) found in
      sym (IsDartNumber-darts lists d (v, u) t.simple.no_repeat in_darts).number ∙ ap (λ (dart : Dart). dart_number lists dart) same

  -- what every caller may know
  pub IsHalfMap-map_of : AreMapFacts lists 0 (ids_of ends)
  IsHalfMap-map_of = record {
    simple = t.simple;
    few_vertices = t.few_vertices;
    is_dart = λ d v u e. HasDart-from_slice_get lists ends d v u t.ends_are (sym (dart_at-map_of lists ends d) ∙ e);
    has_id = λ v u h. (dart_number lists (v, u), dart_at-map_of lists ends (dart_number lists (v, u)) ∙ slice_get-dart_number lists ends v u t.ends_are h);
    one_id = λ d e v u a b. number_of d v u (sym (dart_at-map_of lists ends d) ∙ a) ∙ sym (number_of e v u (sym (dart_at-map_of lists ends e) ∙ b));
    few_ids = omega (arith, length-map {B = Option Dart} ends (λ d. Some d), length-ends, dart_count-edge_count lists t.simple);
    few_edges = omega (arith, few_darts-simple lists t.few_vertices t.simple, dart_count-edge_count lists t.simple);
  }

module _ (lists : Lists) (starts : List ℕ) (ends : List Dart) (twins : List ℕ) (t : AreTables lists starts ends twins) {k : AreMapFacts lists 0 (ids_of ends)} (map : Map) (view : map_of lists ends k ≡ map) where
  pub same_lists : map.lists ≡ lists
  same_lists = ap (λ (m : Map). m.lists) (sym view)

  pub dart_at-slice_get : (d : ℕ) → dart_at map d ≡ slice_get ends d
  dart_at-slice_get d = ap (λ m. dart_at m d) (sym view) ∙ dart_at-map_of lists ends d

  -- an entry's dart has the number of its place
  dart_at-place : (v k : ℕ) → v < length lists → k < length (list_of lists v) → dart_at map (darts_before lists v + k) ≡ Some (v, get_or (list_of lists v) k 0)
  dart_at-place v k h l =
      dart_at-slice_get (darts_before lists v + k)
      ∙ slice_get-get_or ends (darts_before lists v + k) (0, 0) (omega (arith, length-ends lists starts ends twins t, darts_before_end lists v))
      ∙ ap (λ d. Some d) (ap (λ ds. get_or ds (darts_before lists v + k) (0, 0)) t.ends_are ∙ dart_at_place lists v k (0, 0) 0 h l)

  module _ (d : ℕ) (dart : Dart) (here : slice_get ends d ≡ Some dart) where
    is_dart : HasDart lists dart.0 dart.1
    is_dart = HasDart-from_slice_get lists ends d dart.0 dart.1 t.ends_are here

    pub start_at : get_or starts dart.0 0 ≡ darts_before lists dart.0
    start_at = t.starts_are.at dart.0 (omega (arith, is_dart.0))

    pub end_at : get_or starts (dart.0 + 1) 0 ≡ darts_before lists dart.0 + length (list_of lists dart.0)
    end_at = t.starts_are.at (dart.0 + 1) (omega (arith, is_dart.0)) ∙ darts_before_more lists dart.0

    number_is : d ≡ darts_before lists dart.0 + place_of dart.1 (list_of lists dart.0)
    number_is = number_of lists starts ends twins t d dart.0 dart.1 here

    place_in : place_of dart.1 (list_of lists dart.0) < length (list_of lists dart.0)
    place_in = place_of-lt-length dart.1 (list_of lists dart.0) is_dart.1

    pub from_start : get_or starts dart.0 0 ≤ d
    from_start = omega (arith, start_at, number_is)

    pub below_end : d < get_or starts (dart.0 + 1) 0
    below_end = omega (arith, end_at, number_is, place_in)

    pub dart_at-here : dart_at map d ≡ Some dart
    dart_at-here = dart_at-slice_get d ∙ here

    pub next_at : (s e : ℕ) → s ≡ get_or starts dart.0 0 → e ≡ get_or starts (dart.0 + 1) 0 → dart_at map (cond (ltb (d + 1) e) (d + 1) s) ≡ option_map (next_dart map.lists) (dart_at map d)
    next_at s e start end =
        let us = list_of lists dart.0 in
        let k = place_of dart.1 us in
        let n = length us in
        let number : cond (ltb (d + 1) e) (d + 1) s ≡ darts_before lists dart.0 + place_after n k =
        rw (start, end, start_at, end_at, number_is) (number_after-place (darts_before lists dart.0) n k place_in) in
        ap (λ x. dart_at map x) number ∙ dart_at-place dart.0 (place_after n k) is_dart.0 (place_after-lt n k place_in)
        ∙ ap (λ x. Some (dart.0, x)) (sym (entry_after-place dart.1 us 0 place_in))
        ∙ ap (λ (ls : Lists). Some (dart.0, follows ls dart.0 dart.1)) (sym same_lists)
        ∙ ap (λ o. option_map (next_dart map.lists) o) (sym dart_at-here)

  module _ (v : ℕ) (v_in : v < length map.lists) where
    in_lists : v < length lists
    in_lists = omega (arith, v_in, ap length same_lists)

    pub vertex_start : get_or starts v 0 ≡ darts_before lists v
    vertex_start = t.starts_are.at v (omega (arith, in_lists))

    -- the first dart of a vertex
    pub first_at : (s : ℕ) → s ≡ get_or starts v 0 → 0 < length (list_of map.lists v) → dart_at map s ≡ Some (v, get_or (list_of map.lists v) 0 0)
    first_at s start some =
        let e : s ≡ darts_before lists v + 0 = omega (arith, start, vertex_start) in
        let same = ap (λ (ls : Lists). list_of ls v) same_lists in
        ap (λ x. dart_at map x) e ∙ dart_at-place v 0 in_lists (omega (arith, some, ap length same)) ∙ ap (λ (us : List ℕ). Some (v, get_or us 0 0)) (sym same)
