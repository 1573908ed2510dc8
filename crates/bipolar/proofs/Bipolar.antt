-- A connected map of genus zero with an st-order, by the numbers of its darts.
use Rattle.std.proofs.Common.{◌≡◌, ℕ, ◌+◌, ◌-◌, ◌<◌, ◌≤◌, eqb, List, length, get_or, sym, ap, ◌∙◌, arith}
use Rattle.std.proofs.lemmas.Bool.{eq-eqb}
use Rattle.classes.specs.Classes.{label, class_count}
use Rattle.classes.proofs.Classes.{IsLabels, label-lt}
use Rattle.classes.proofs.Orbits.{orbits_of}
use Rattle.classes.proofs.Bound.{after, joint, length-joint, IsLabels-joint}
use Rattle.map_lists.specs.Lists.{Lists}
use Rattle.map_theory.specs.Maps.{Dart, HasDart, dart_number, dart_count, edge_count, vertex_count, face_count, isolated_count}
use Rattle.map_theory.proofs.DartLemmas.{dart_number-lt}
use Rattle.map_theory.proofs.DartPermutations.{dart_of, tail_of, rotation, twin, dart_of-number, dart_of-twin, IsPermuting-rotation, IsPairing-twin, tail_of-rotation, same_orbit, component_count-classes, face_count-orbits, two_m, balances_map, dart_classes}
use Rattle.plane_laws.proofs.DartPaths.{tail_of-number, twin-number}
use Rattle.bipolar.proofs.Upward.{IsBipolar}
use Rattle.bipolar.proofs.Falls.{count_but}
use Rattle.bipolar.specs.Laws.{IsStMap}

-- the rank of the vertex that a dart leaves
abbrev pub rank_of : Lists → List ℕ → ℕ → ℕ
rank_of lists rank i = get_or rank (tail_of lists i) 0

-- labels of at least one number have a class
some_class : (labels : List ℕ) → IsLabels labels → (i : ℕ) → i < length labels → 1 ≤ class_count labels
some_class labels w i l =
    let own = label labels i in
    omega (arith, count_but (λ j. eqb (label labels j) j) (length labels) own (label-lt labels w i l) (eq-eqb (label labels own) own (w.own i)))

module _ {lists : Lists} {s t : ℕ} {at rank : List ℕ} (x : IsStMap lists s t at rank) where
  pub dart_in : (u v : ℕ) → HasDart lists u v → dart_number lists (u, v) < dart_count lists
  dart_in u v has = dart_number-lt lists u v has

  pub is_dart : (i : ℕ) → i < dart_count lists → HasDart lists (dart_of lists i).0 (dart_of lists i).1
  is_dart i l = (dart_of-number lists x.simple i l).is_dart

  pub number_back : (i : ℕ) → i < dart_count lists → dart_number lists (dart_of lists i) ≡ i
  number_back i l = (dart_of-number lists x.simple i l).number

  tail_in : (i : ℕ) → i < dart_count lists → tail_of lists i < vertex_count lists
  tail_in i l = (is_dart i l).0

  pub head_of : (i : ℕ) → i < dart_count lists → tail_of lists (twin lists i) ≡ (dart_of lists i).1
  head_of i l = ap (λ (d : Dart). d.0) (dart_of-twin lists x.simple i l)

  -- one vertex for a rank
  pub one_vertex : (u v : ℕ) → u < vertex_count lists → v < vertex_count lists → get_or rank u 0 ≡ get_or rank v 0 → u ≡ v
  one_vertex u v lu lv e = sym (x.order.of_vertex u lu) ∙ (ap (λ i. get_or at i 0) e ∙ x.order.of_vertex v lv)

  some : 0 < vertex_count lists
  some = x.simple.some_vertex

  pub rank_s : get_or rank s 0 ≡ 0
  rank_s = ap (λ v. get_or rank v 0) (sym x.order.first) ∙ x.order.of_place 0 some

  pub rank_t : get_or rank t 0 ≡ vertex_count lists - 1
  rank_t = ap (λ v. get_or rank v 0) (sym x.order.last) ∙ x.order.of_place (vertex_count lists - 1) (let l = some in omega arith)

  pub rank_in : (v : ℕ) → v < vertex_count lists → get_or rank v 0 < vertex_count lists
  rank_in v l = x.order.places v 0 (omega (arith, l, x.order.ranks))

  base_in : dart_number lists (s, t) < dart_count lists
  base_in = dart_in s t x.dart

  one_class : (class_count (dart_classes lists x.simple) ≡ 1) × (isolated_count lists ≡ 0)
  one_class =
      let k = dart_count lists in
      let size = length-joint (rotation lists) (twin lists) k (IsPermuting-rotation lists x.simple).within (IsPairing-twin lists x.simple).within in
      let labels = IsLabels-joint (rotation lists) (twin lists) k (IsPermuting-rotation lists x.simple).within (IsPairing-twin lists x.simple).within in
      let more = some_class (joint (rotation lists) (twin lists) k) labels (dart_number lists (s, t)) (omega (arith, size, base_in)) in
      let all = component_count-classes lists x.simple in
      (omega (arith, more, all, x.connected), omega (arith, more, all, x.connected))

  -- no vertex is isolated, so the faces are those of the darts
  pub faces_are : face_count lists ≡ class_count (orbits_of (after (rotation lists) (twin lists)) (dart_count lists))
  faces_are = omega (arith, face_count-orbits lists x.simple, one_class.1)

  darts_plane : class_count (orbits_of (rotation lists) (dart_count lists)) + class_count (orbits_of (after (rotation lists) (twin lists)) (dart_count lists)) ≡ edge_count lists + 2
  darts_plane =
      omega (arith, balances_map lists x.simple 0 (omega (arith, x.plane)), one_class.0)

  pub rank_at : (u v : ℕ) → HasDart lists u v → rank_of lists rank (dart_number lists (u, v)) ≡ get_or rank u 0
  rank_at u v has = ap (λ z. get_or rank z 0) (tail_of-number lists u v has)

  pub rank_twin : (u v : ℕ) → HasDart lists u v → rank_of lists rank (twin lists (dart_number lists (u, v))) ≡ get_or rank v 0
  rank_twin u v has =
      ap (rank_of lists rank) (twin-number lists u v has) ∙ rank_at v u (x.simple.both_ways u v has)

  -- the map is bipolar
  pub bipolar : IsBipolar (dart_count lists) (edge_count lists) (rotation lists) (twin lists) (rank_of lists rank) (dart_number lists (s, t))
  bipolar =
      let bs = rank_at s t x.dart in
      let bt = rank_twin s t x.dart in
      record {
        rotates = IsPermuting-rotation lists x.simple;
        pairs = IsPairing-twin lists x.simple;
        edges = two_m lists x.simple;
        plane = darts_plane;
        turned = λ i l. ap (λ v. get_or rank v 0) (tail_of-rotation lists x.simple i l);
        vertices = λ i j l m e. same_orbit lists x.simple i j l m (one_vertex (tail_of lists i) (tail_of lists j) (tail_in i l) (tail_in j m) e);
        slanted = λ i l e.
            let has = is_dart i l in
            let back = x.simple.both_ways (dart_of lists i).0 (dart_of lists i).1 has in
            x.simple.no_loop (dart_of lists i).0 (dart_of lists i).1 has
            (sym (one_vertex (dart_of lists i).0 (dart_of lists i).1 has.0 back.0 (e ∙ ap (λ v. get_or rank v 0) (head_of i l))));
        base = base_in;
        least = λ i l. omega (arith, bs, rank_s);
        greatest = λ i l. omega (arith, bt, rank_t, rank_in (tail_of lists i) (tail_in i l));
        later = λ i l low.
            let v = tail_of lists i in
            let up = x.order.later v (tail_in i l) (λ e. omega (arith, low, bt, ap (λ z. get_or rank z 0) e)) in
            (dart_number lists (v, up.0), dart_in v up.0 up.1, rank_at v up.0 up.1, omega (arith, rank_at v up.0 up.1, rank_twin v up.0 up.1, up.2));
        earlier = λ i l high.
            let v = tail_of lists i in
            let down = x.order.earlier v (tail_in i l) (λ e. omega (arith, high, bs, ap (λ z. get_or rank z 0) e)) in
            (dart_number lists (v, down.0), dart_in v down.0 down.1, rank_at v down.0 down.1, omega (arith, rank_at v down.0 down.1, rank_twin v down.0 down.1, down.2));
      }
