-- Stretches by counts, and removable vertices by rows.
use Rattle.std.proofs.Common.{◌≡◌, ◌≢◌, ◌↔◌, ℕ, suc, ◌+◌, ◌<◌, ◌≤◌, Bool, true, eqb, ltb, lt-ltb, ltb-true, List, length, slice_index, refl, sym, ap, ap₂, ◌∙◌, subst, inl, inr, arith}
use Rattle.classes.specs.Classes.{count_below}
use Rattle.classes.proofs.Counting.{count_below_same}
use Rattle.map_lists.specs.Lists.{Lists}
use Rattle.map_theory.specs.Maps.{list_of, HasDart, IsSimpleMap, place_of}
use Rattle.map_theory.proofs.EntryLemmas.{Contains-from_count_of, Contains-counted}
use Rattle.convex_peeling.specs.Polyhedral.{IsPolyhedral}
use Rattle.convex_peeling.proofs.PolyhedralLemmas.{three_connected_is_polyhedral}
use Rattle.convex_peeling.proofs.Neighbours.{three_neighbours}
use Rattle.convex_peeling.specs.Contours.{face_of, Passes, IsContour, IsStretch, IsRemovable}
use Rattle.convex_peeling.specs.FacePeelingLaws.{HasThree}
use Rattle.convex_peeling.proofs.Choices.{some_removable_law}
use Rattle.convex_peeling.proofs.StretchCounts.{stretch_by_counts_law}
use Rattle.convex_peeling.proofs.TakenOff.{base_passes, base_living}
use Rattle.convex_orders.specs.FaceNumbers.{entry, AreFaceNumbers}
use Rattle.convex_orders.specs.Contours.{inner_number}
use Rattle.convex_orders.specs.Counts.{met_at, met_below, AreCounts}
use Rattle.convex_orders.proofs.ContourCountsRows.{entry_at, entry-lt, entry_within, passes-number}
use Rattle.convex_orders.specs.Shown.{is_set, IsBased, IsChoice}
use Rattle.convex_orders.specs.Splits.{IsRemovableRow, IsRemovablePlace}
use Rattle.convex_orders.proofs.Once.{number_once, sum_is_count, one_if_some, same_test}

module _ (lists own other : Lists) (count s d : ℕ) (based : IsBased lists s d) (n : AreFaceNumbers lists own other count) (marks : List Bool) (ws places edges : List ℕ) (counts : AreCounts lists own count ws places edges) (alive : ℕ → Bool) (w : ℕ → ℕ) (r : ℕ) (choice : IsChoice lists own marks s d ws alive w r) where
  abbrev simple : IsSimpleMap lists
  simple = based.three.simple

  pub polyhedral : IsPolyhedral lists
  polyhedral = three_connected_is_polyhedral lists based.three based.plane

  pub has_three : HasThree lists
  has_three v l = three_neighbours lists v based.three l

  abbrev contour : IsContour lists alive w r
  contour = choice.shown.contour

  pub long : length ws ≡ suc r
  long = choice.list.long

  pub at_place : (i : ℕ) → i ≤ r → slice_index ws i ≡ w i
  at_place i l = choice.list.each i l

  pub edge_back : (i : ℕ) → i ≤ r → HasDart lists (w (suc i)) (w i)
  edge_back i l = simple.both_ways (w i) (w (suc i)) (contour.edge i l).dart

  pub vertex_in : (i : ℕ) → i ≤ r → w i < length lists
  vertex_in i l = (contour.edge i l).dart.0

  -- no row has a number twice
  row_once : (v : ℕ) → v < length lists → (f : ℕ) → met_at own f v ≤ 1
  row_once v l f = number_once lists own other count simple polyhedral n v l f

  -- a face at a vertex of the contour meets it in one stretch exactly where its number is met once more than it has edges
  pub whole_stretch : (j u : ℕ) → j ≤ r → HasDart lists (w j) u → (slice_index places (entry lists own (w j) u) ≡ slice_index edges (entry lists own (w j) u) + 1) ↔ IsStretch lists w r (face_of lists (w j) u)
  whole_stretch j u j_r has =
      let f = entry lists own (w j) u in
      let face = face_of lists (w j) u in
      let f_in = entry-lt lists own count n.own_table (w j) u has in
      let passed : ℕ → Bool = λ i. ltb 0 (met_at own f (w i)) in
      let tells : (i : ℕ) → i ≤ r → (passed i ≡ true) ↔ Passes lists face (w i) = λ i l. (
        (λ t. (passes-number lists own other count simple n (w j) u (w i) has (vertex_in i l)).0 (Contains-from_count_of f (list_of own (w i)) (ltb-true 0 (met_at own f (w i)) t))),
        (λ p. lt-ltb 0 (met_at own f (w i)) (Contains-counted f (list_of own (w i)) ((passes-number lists own other count simple n (w j) u (w i) has (vertex_in i l)).1 p))),
      ) in
      let law = stretch_by_counts_law lists alive w r face j passed simple contour tells j_r (u, has, refl) in
      let places_are : slice_index places f ≡ count_below passed (suc r) =
      counts.places_are f f_in ∙ (ap (λ m. met_below own ws m f) long ∙ sum_is_count (λ i. met_at own f (slice_index ws i)) passed (suc r)
      (λ i l. let v = at_place i (omega arith) in ap (λ x. met_at own f x) v ∙ one_if_some (met_at own f (w i)) (row_once (w i) (vertex_in i (omega arith)) f))) in
      let edges_are : slice_index edges f ≡ count_below (λ i. eqb (face_of lists (w (suc i)) (w i)) face) r =
      counts.edges_are f r f_in (sym long) ∙ count_below_same (λ i. eqb (inner_number lists own ws i) f) (λ i. eqb (face_of lists (w (suc i)) (w i)) face) r
      (λ i l.
      let at : inner_number lists own ws i ≡ entry lists own (w (suc i)) (w i) = ap₂ (entry lists own) (at_place (suc i) l) (at_place i (omega arith)) in
      let alike = n.alike (w (suc i)) (w i) (w j) u (edge_back i (omega arith)) has in
      same_test (inner_number lists own ws i) f (face_of lists (w (suc i)) (w i)) face (λ e. alike.0 (sym at ∙ e)) (λ e. at ∙ alike.1 e)) in (
        (λ e. law.0 (sym places_are ∙ (e ∙ ap (λ z. z + 1) edges_are))),
        (λ stretch. places_are ∙ (law.1 stretch ∙ ap (λ z. z + 1) (sym edges_are))),
      )

  -- a removable vertex by its rows
  removable_place : (j : ℕ) → IsRemovable lists alive w r j → IsRemovablePlace own other marks places edges ws j
  removable_place j removable =
      let v = w j in
      let open_at = removable.open_at in
      let has = open_at.1 in
      let row : IsRemovableRow (list_of own v) (list_of other v) marks places edges = record {
        place = place_of open_at.0 (list_of lists v);
        open_at = record {
          within = entry_within lists own count n.own_table v open_at.0 has;
          outside = choice.shown.marks_are v open_at.0 has ∙ open_at.2;
          inside = ap (is_set marks) (n.back v open_at.0 has) ∙ (choice.shown.marks_are open_at.0 v (simple.both_ways v open_at.0 has) ∙ open_at.3);
        };
        whole = λ i m live.
            let e = entry_at lists own count simple n.own_table v i (vertex_in j (omega arith)) m in
            let u = slice_index (list_of lists v) i in
            let live_face : alive (face_of lists v u) ≡ true = sym (choice.shown.marks_are v u e.dart) ∙ (ap (is_set marks) (sym e.is) ∙ live) in
            let whole = (whole_stretch j u (omega arith) e.dart).1 (removable.stretches u e.dart live_face) in
            ap (λ f. slice_index places f) e.is ∙ (whole ∙ ap (λ f. slice_index edges f + 1) (sym e.is));
      } in
      record {
        after = removable.after;
        before = omega arith;
        removable = subst (λ z. IsRemovableRow (list_of own z) (list_of other z) marks places edges) (sym (at_place j (omega arith))) row;
      }

  pub place_removable : (j : ℕ) → IsRemovablePlace own other marks places edges ws j → IsRemovable lists alive w r j
  place_removable j p =
      let v = w j in
      let before = p.before in
      let at = at_place j (omega arith) in
      let l = vertex_in j (omega arith) in
      let row : IsRemovableRow (list_of own v) (list_of other v) marks places edges = subst (λ z. IsRemovableRow (list_of own z) (list_of other z) marks places edges) at p.removable in
      let e = entry_at lists own count simple n.own_table v row.place l row.open_at.within in
      let m : row.place < length (list_of other v) = omega (arith, row.open_at.within, n.own_table.sizes v l, n.other_table.sizes v l) in
      let e' = entry_at lists other count simple n.other_table v row.place l m in
      let x = slice_index (list_of lists v) row.place in
      record {
        after = p.after;
        before = omega arith;
        open_at = (
          x,
          e.dart,
          sym (choice.shown.marks_are v x e.dart) ∙ (ap (is_set marks) (sym e.is) ∙ row.open_at.outside),
          sym (choice.shown.marks_are x v (simple.both_ways v x e.dart)) ∙ (ap (is_set marks) (sym (n.back v x e.dart)) ∙ (ap (is_set marks) (sym e'.is) ∙ row.open_at.inside)),
        );
        stretches = λ u has live.
            let i = place_of u (list_of lists v) in
            (whole_stretch j u (omega arith) has).0 (row.whole i (entry_within lists own count n.own_table v u has) (choice.shown.marks_are v u has ∙ live));
      }

  -- the edge that is not of the face inside of the base
  not_all : ((i : ℕ) → i < r → face_of lists (w (suc i)) (w i) ≡ face_of lists (w 0) (w r)) → (i : ℕ) × (i < r) × (entry lists own (w (suc i)) (w i) ≢ entry lists own d s) → ⊥
  not_all all o =
      let inner : HasDart lists (w 0) (w r) = simple.both_ways (w r) (w 0) (subst (HasDart lists (w r)) contour.round (contour.edge r (omega arith)).dart) in
      let l = o.1 in
      o.2 ((n.alike (w (suc o.0)) (w o.0) (w 0) (w r) (edge_back o.0 (omega arith)) inner).1 (all o.0 l) ∙ ap₂ (entry lists own) choice.shown.first choice.shown.last)

  -- THE CHOICE: some place is removable
  pub some_place : (j : ℕ) × IsRemovablePlace own other marks places edges ws j
  some_place =
      elim (some_removable_law lists alive w r simple based.plane polyhedral contour choice.begun) [
        | inl all ↦ absurd (not_all all choice.other)
        | inr found ↦ (found.0, removable_place found.0 found.1)
      ]

  -- the face inside of the base does not pass a removable vertex
  pub off_base : (j : ℕ) → IsRemovable lists alive w r j → ¬ Passes lists (face_of lists (w 0) (w r)) (w j)
  off_base j removable p =
      let ends = base_passes lists alive w r simple polyhedral has_three contour in
      let stretch = subst (IsStretch lists w r) p.2 (removable.stretches p.0 p.1 (ap alive p.2 ∙ base_living lists alive w r simple polyhedral has_three contour)) in
      not_all (λ i l. stretch 0 i r (omega arith) l (omega arith) ends.0 ends.1) choice.other
