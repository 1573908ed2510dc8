-- What the darts say of a drawing, said of its lists: it is plane and keeps the rotations.
use Rattle.std.proofs.Common.{◌≡◌, ℕ, ◌<◌, List, [], ◌∷◌, length, get_or, refl, sym, ap, subst, ◌∙◌, arith}
use Rattle.classes.proofs.Orbits.{IsPermuting}
use Rattle.map_lists.specs.Lists.{Lists}
use Rattle.map_theory.specs.Maps.{Dart, HasDart, is_empty_list, list_of, follows, dart_number, dart_count}
use Rattle.map_theory.proofs.DartLemmas.{dart_number-lt, HasDart-at, get_or-dart_number}
use Rattle.map_theory.proofs.DartPermutations.{dart_of, tail_of, rotation, twin, dart_of-number, dart_of-twin, dart_of-rotation, IsPermuting-rotation, IsPairing-twin, tail_of-rotation, count_by-count_below}
use Rattle.plane_laws.proofs.EdgeBound.{none_isolated, met_connected}
use Rattle.pg_plane.specs.declared.grid_points.Point.{Point}
use Rattle.pg_plane.specs.Geometry.{vector, IsClockBefore}
use Rattle.pg_plane.specs.Faced.{turn}
use Rattle.pg_plane.specs.Law.{IsPlaneByDarts, direction}
use Rattle.pg_plane.proofs.Counts.{count_one}
use Rattle.plane_drawings.specs.Drawing.{place, IsPlaneDrawing, IsBreak, KeepsRotations}
use Rattle.plane_laws.specs.Triangulations.{IsTriangulation}
use Rattle.plane_drawings.proofs.OneBreak.{one_of_lists}

module _ (lists : Lists) (points : List Point) (c : IsTriangulation lists) (thrice : (i : ℕ) → i < dart_count lists → rotation lists (twin lists (rotation lists (twin lists (rotation lists (twin lists i))))) ≡ i) (p : IsPlaneByDarts (dart_count lists) (twin lists) (λ i. rotation lists (twin lists i)) (λ i. place points (tail_of lists i)) (tail_of lists)) where
  abbrev h' : ℕ → ℕ
  h' i = rotation lists (twin lists i)

  number : ℕ → ℕ → ℕ
  number u v = dart_number lists (u, v)

  number_in : (u v : ℕ) → HasDart lists u v → number u v < dart_count lists
  unfolding number
  number_in u v has = dart_number-lt lists u v has

  number_dart : (u v : ℕ) → HasDart lists u v → dart_of lists (number u v) ≡ (u, v)
  unfolding number
  number_dart u v has = get_or-dart_number lists u v (0, 0) has

  number_tail : (u v : ℕ) → HasDart lists u v → tail_of lists (number u v) ≡ u
  number_tail u v has = ap (λ (d : Dart). d.0) (number_dart u v has)

  -- each vertex has a dart
  some_dart : (v : ℕ) → v < length lists → (u : ℕ) × HasDart lists v u
  some_dart v l =
      let alone = none_isolated lists c.simple (let one = met_connected lists c.simple c.plane c.some c.edges in omega arith) c.some in
      let counted = count_by-count_below is_empty_list lists [] in
      by_list (list_of lists v) refl
      (λ e. let one = count_one (λ i. is_empty_list (get_or lists i [])) (length lists) v l (ap is_empty_list e) in omega arith)
    where
      by_list : (us : List ℕ) → list_of lists v ≡ us → (us ≡ [] → ⊥) → (u : ℕ) × HasDart lists v u
      by_list [] e never = absurd (never refl)
      by_list (u ∷ us) e never = (get_or (list_of lists v) 0 0, HasDart-at lists v 0 0 l (rw e (omega arith)))

  twins_in : (i : ℕ) → i < dart_count lists → twin lists i < dart_count lists
  twins_in i l = (IsPairing-twin lists c.simple).within i l

  head_tail : (i : ℕ) → i < dart_count lists → tail_of lists (h' i) ≡ (dart_of lists i).1
  head_tail i l = tail_of-rotation lists c.simple (twin lists i) (twins_in i l) ∙ ap (λ (d : Dart). d.0) (dart_of-twin lists c.simple i l)

  number_head : (u v : ℕ) → HasDart lists u v → tail_of lists (h' (number u v)) ≡ v
  number_head u v has = head_tail (number u v) (number_in u v has) ∙ ap (λ (d : Dart). d.1) (number_dart u v has)

  place_of_number : (u v : ℕ) → HasDart lists u v → place points (tail_of lists (number u v)) ≡ place points u
  place_of_number u v has = ap (place points) (number_tail u v has)

  place_of_head : (u v : ℕ) → HasDart lists u v → place points (tail_of lists (h' (number u v))) ≡ place points v
  place_of_head u v has = ap (place points) (number_head u v has)

  -- the drawing is plane
  pub is_plane : IsPlaneDrawing lists points
  is_plane = record {
    apart = λ u v lu lv ne same.
        let a = some_dart u lu in
        let b = some_dart v lv in
        ne (sym (number_tail u a.0 a.1) ∙ p.apart (number u a.0) (number v b.0) (number_in u a.0 a.1) (number_in v b.0 b.1) (place_of_number u a.0 a.1 ∙ same ∙ sym (place_of_number v b.0 b.1)) ∙ number_tail v b.0 b.1);
    off_edges = λ u v w has lw nu nv on.
        let b = some_dart w lw in
        p.off_edges (number u v) (number w b.0) (number_in u v has) (number_in w b.0 b.1)
        (λ e. nu (sym (number_tail w b.0 b.1) ∙ e ∙ number_tail u v has))
        (λ e. nv (sym (number_tail w b.0 b.1) ∙ e ∙ number_head u v has))
        (rw (place_of_number w b.0 b.1, place_of_number u v has, place_of_head u v has) on);
    no_crossing = λ a b e f has has' n1 n2 n3 n4 x.
        p.no_crossing (number a b) (number e f) (number_in a b has) (number_in e f has')
        (rw (place_of_number a b has, place_of_head a b has, place_of_number e f has', place_of_head e f has') x);
  }

  rotations : IsPermuting (rotation lists) (dart_count lists)
  rotations = IsPermuting-rotation lists c.simple

  -- the dart before the next one is itself
  turn_back : (i : ℕ) → i < dart_count lists → turn (twin lists) h' (rotation lists i) ≡ i
  turn_back i l =
      let back = (IsPairing-twin lists c.simple).back i l in
      ap (λ (x : ℕ). twin lists (h' (h' x))) (sym (ap (rotation lists) back)) ∙ ap (twin lists) (thrice (twin lists i) (twins_in i l)) ∙ back

  abbrev way : ℕ → Point
  way i = direction h' (λ j. place points (tail_of lists j)) i

  way_is : (i : ℕ) → i < dart_count lists → way i ≡ vector (place points (dart_of lists i).0) (place points (dart_of lists i).1)
  way_is i l = ap (λ (z : Point). vector (place points (tail_of lists i)) z) (ap (place points) (head_tail i l))

  next_way : (i : ℕ) → i < dart_count lists → way (rotation lists i) ≡ vector (place points (dart_of lists i).0) (place points (follows lists (dart_of lists i).0 (dart_of lists i).1))
  next_way i l =
      way_is (rotation lists i) (rotations.within i l)
      ∙ ap (λ (d : Dart). vector (place points d.0) (place points d.1)) (dart_of-rotation lists c.simple i l)

  turned_way : (i : ℕ) → i < dart_count lists → way (turn (twin lists) h' (rotation lists i)) ≡ vector (place points (dart_of lists i).0) (place points (dart_of lists i).1)
  turned_way i l = ap (λ (x : ℕ). way x) (turn_back i l) ∙ way_is i l

  -- a break of darts is one in a list
  break_from : (i : ℕ) → i < dart_count lists → ¬ IsClockBefore (way (turn (twin lists) h' (rotation lists i))) (way (rotation lists i)) → IsBreak lists points (dart_of lists i).0 (dart_of lists i).1
  break_from i l b = λ x. b (subst (λ (z : Point). IsClockBefore z (way (rotation lists i))) (sym (turned_way i l)) (subst (λ (z : Point). IsClockBefore (vector (place points (dart_of lists i).0) (place points (dart_of lists i).1)) z) (sym (next_way i l)) x))

  -- and the other way about
  break_to : (i : ℕ) → i < dart_count lists → IsBreak lists points (dart_of lists i).0 (dart_of lists i).1 → ¬ IsClockBefore (way (turn (twin lists) h' (rotation lists i))) (way (rotation lists i))
  break_to i l b = λ x. b (subst (λ (z : Point). IsClockBefore (vector (place points (dart_of lists i).0) (place points (dart_of lists i).1)) z) (next_way i l) (subst (λ (z : Point). IsClockBefore z (way (rotation lists i))) (turned_way i l) x))

  -- the rotations are kept
  pub rotations_kept : KeepsRotations lists points
  rotations_kept v lv two = record {
    some =
        let a = some_dart v lv in
        let found = p.some_break (number v a.0) (number_in v a.0 a.1) in
        let i = found.0 in
        let before = turn (twin lists) h' i in
        let lb : before < dart_count lists = twins_in (h' (h' i)) (rotations.within (twin lists (h' i)) (twins_in (h' i) (rotations.within (twin lists i) (twins_in i found.1)))) in
        let again : rotation lists before ≡ i = thrice i found.1 in
        let tail_is : (dart_of lists before).0 ≡ v =
        sym (tail_of-rotation lists c.simple before lb) ∙ ap (tail_of lists) again ∙ found.2 ∙ number_tail v a.0 a.1 in
        let broken = break_from before lb (subst (λ (x : ℕ). ¬ IsClockBefore (way (turn (twin lists) h' x)) (way x)) (sym again) found.3) in (
          (dart_of lists before).1,
          subst (λ (x : ℕ). HasDart lists x (dart_of lists before).1) tail_is ((dart_of-number lists c.simple before lb).is_dart),
          subst (λ (x : ℕ). IsBreak lists points x (dart_of lists before).1) tail_is broken,
        );
    one = one_of_lists lists c.simple points (λ i j li lj tails bi bj. p.one_break (rotation lists i) (rotation lists j) (rotations.within i li) (rotations.within j lj) tails (break_to i li bi) (break_to j lj bj)) v;
  }
