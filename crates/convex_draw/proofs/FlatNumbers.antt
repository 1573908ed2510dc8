-- Numbers of darts, one behind another, as numbers list by list.
use Rattle.std.proofs.Common.{◌≡◌, ℕ, ◌+◌, ◌*◌, ◌<◌, ◌≤◌, List, length, map, get_or, refl, sym, ap, ◌∙◌, subst, arith}
use Rattle.std.proofs.lemmas.List.{length-map, get_or-map}
use Rattle.classes.specs.Classes.{class_count}
use Rattle.map_lists.specs.Lists.{Lists}
use Rattle.map_lists.specs.Cuts.{cut, joined, ends_from, AreCuts}
use Rattle.map_lists.proofs.CutLemmas.{IsStored, IsStored-cuts, IsStored-cut, IsStored-total, length-cut}
use Rattle.map_theory.specs.Maps.{HasDart, IsSimpleMap, IsPlane, list_of, place_of, darts, darts_before, dart_number, dart_count, face_classes, face_count, component_count}
use Rattle.map_theory.proofs.DartLemmas.{length-darts, dart_number-lt, darts_before_end, place_of-lt-length}
use Rattle.simple_maps.specs.Tables.{AreTwins}
use Rattle.simple_maps.proofs.FlatLemmas.{start-is, length-list, entry-is}
use Rattle.plane_laws.proofs.EdgeBound.{none_isolated}
use Rattle.plane_laws.specs.Triangulations.{IsTriangulation}
use Rattle.convex_peeling.specs.Polyhedral.{IsThreeConnected}
use Rattle.convex_draw.proofs.Triangulated.{triangulation_is_three_connected}
use Rattle.convex_orders.specs.FaceNumbers.{entry, IsTable, AreFaceNumbers}
use Rattle.bipolar.specs.FaceNumbers.{AreFaceNumbers as NumberFaces}
use Rattle.bipolar.proofs.TwinNumbers.{twin_in, twin_number}

module _ (lists : Lists) where
  abbrev ends : List ℕ
  ends = ends_from 0 lists

  stored : IsStored lists (joined lists) ends
  stored = record { entries_are = refl; ends_are = refl }

  cuts : AreCuts 0 ends (length (joined lists))
  cuts = IsStored-cuts lists (joined lists) ends stored

  whole : cut 0 ends (joined lists) ≡ lists
  whole = IsStored-cut lists (joined lists) ends stored

  long_ends : length ends ≡ length lists
  long_ends = sym (length-cut 0 ends (joined lists)) ∙ ap (λ (ls : Lists). length ls) whole

  module _ (xs : List ℕ) (size : length xs ≡ dart_count lists) where
    pub row_cuts : AreCuts 0 ends (length xs)
    row_cuts = subst (AreCuts 0 ends) (IsStored-total lists (joined lists) ends stored ∙ sym size) cuts

    row_long : (v : ℕ) → v < length lists → length (list_of (cut 0 ends xs) v) ≡ length (list_of lists v)
    row_long v l =
        length-list ends xs row_cuts v (omega (arith, l, long_ends))
        ∙ (sym (length-list ends (joined lists) cuts v (omega (arith, l, long_ends))) ∙ ap (λ (ls : Lists). length (list_of ls v)) whole)

    row_at : (v k : ℕ) → v < length lists → k < length (list_of lists v) → get_or (list_of (cut 0 ends xs) v) k 0 ≡ get_or xs (darts_before lists v + k) 0
    row_at v k l m =
        entry-is ends xs row_cuts v k (omega (arith, l, long_ends)) (omega (arith, m, row_long v l))
        ∙ ap (λ s. get_or xs (s + k) 0) (sym (start-is ends (joined lists) cuts v (omega (arith, l, long_ends))) ∙ ap (λ (ls : Lists). darts_before ls v) whole)

    entry_of : (x y : ℕ) → HasDart lists x y → entry lists (cut 0 ends xs) x y ≡ get_or xs (dart_number lists (x, y)) 0
    entry_of x y has = row_at x (place_of y (list_of lists x)) has.0 (place_of-lt-length y (list_of lists x) has.1)

    table_of : (count : ℕ) → ((i : ℕ) → i < dart_count lists → get_or xs i 0 < count) → IsTable lists (cut 0 ends xs) count
    table_of count below = record {
      rows = length-cut 0 ends xs ∙ long_ends;
      sizes = row_long;
      below = λ v i l m.
          let n = row_long v l in
          subst (λ z. z < count) (sym (row_at v i l (omega (arith, m, n)))) (below (darts_before lists v + i) (omega (arith, darts_before_end lists v, m, n)));
    }

module _ (lists : Lists) (simple : IsSimpleMap lists) (of : List ℕ) (count : ℕ) (faces : NumberFaces lists of count) (twins : List ℕ) (w : AreTwins (darts lists) twins (length (darts lists))) where
  abbrev pub at_twins : List ℕ
  at_twins = map (λ t. get_or of t 0) twins

  pub long_at_twins : length at_twins ≡ dart_count lists
  long_at_twins = length-map twins (λ t. get_or of t 0) ∙ (w.count ∙ length-darts lists)

  at_twin : (d : ℕ) → d < dart_count lists → get_or at_twins d 0 ≡ get_or of (get_or twins d 0) 0
  at_twin d l = get_or-map (λ t. get_or of t 0) twins d 0 0 (omega (arith, l, w.count, length-darts lists))

  pub numbers_by_lists : AreFaceNumbers lists (cut 0 (ends_from 0 lists) of) (cut 0 (ends_from 0 lists) at_twins) count
  numbers_by_lists = record {
    own_table = table_of lists of faces.size count faces.below;
    other_table = table_of lists at_twins long_at_twins count (λ i l. subst (λ z. z < count) (sym (at_twin i l)) (faces.below (get_or twins i 0) (twin_in lists twins w i l)));
    alike = λ x y u v has has'.
        let i = dart_number lists (x, y) in
        let j = dart_number lists (u, v) in
        let i_in = dart_number-lt lists x y has in
        let j_in = dart_number-lt lists u v has' in
        let e = entry_of lists of faces.size x y has in
        let e' = entry_of lists of faces.size u v has' in (
          (λ same. faces.one i j i_in j_in (sym e ∙ (same ∙ e'))),
          (λ together. e ∙ (faces.alike i j i_in j_in together ∙ sym e')),
        );
    back = λ x y has.
        entry_of lists at_twins long_at_twins x y has
        ∙ (at_twin (dart_number lists (x, y)) (dart_number-lt lists x y has)
        ∙ (ap (λ k. get_or of k 0) (twin_number lists twins w simple x y has) ∙ sym (entry_of lists of faces.size y x (simple.both_ways x y has))));
  }

-- connected lists with as many entries and faces as those of a triangulation
module _ (lists : Lists) (simple : IsSimpleMap lists) (some : 4 ≤ length lists) (full : dart_count lists + 12 ≡ 6 * length lists) (connected : component_count lists ≡ 1) (count : ℕ) (all : count ≡ class_count (face_classes lists)) (enough : count + 4 ≡ 2 * length lists) where
  pub full_count : count ≡ face_count lists
  unfolding face_count
  full_count =
      let none = none_isolated lists simple (omega (arith, connected)) (omega (arith, some)) in
      omega (arith, all, none)

  pub full_plane : IsPlane lists
  full_plane = omega (arith, full_count, full, connected, enough, some)

  pub full_three : IsThreeConnected lists
  full_three =
      let t : IsTriangulation lists = record { simple = simple; plane = full_plane; some = omega (arith, some); edges = omega (arith, full, some) } in
      triangulation_is_three_connected lists t some
