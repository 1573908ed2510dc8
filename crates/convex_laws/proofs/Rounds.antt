-- What the darts say of a drawing, said of the lists of the map.
use Rattle.std.proofs.Common.{◌≡◌, ℕ, ◌<◌, List, length, sym, ap, subst, ◌∙◌}
use Rattle.classes.proofs.Orbits.{IsPermuting}
use Rattle.classes.proofs.Bound.{IsPermuting-pairing, IsPermuting-after}
use Rattle.map_lists.specs.Lists.{Lists}
use Rattle.map_theory.specs.Maps.{Dart, HasDart, IsSimpleMap, follows, dart_number, dart_count}
use Rattle.map_theory.proofs.DartLemmas.{dart_number-lt, get_or-dart_number}
use Rattle.map_theory.proofs.DartPermutations.{dart_of, tail_of, rotation, twin, dart_of-number, dart_of-twin, dart_of-rotation, IsPermuting-rotation, IsPairing-twin, tail_of-rotation}
use Rattle.pg_plane.specs.declared.grid_points.Point.{Point}
use Rattle.pg_plane.specs.Geometry.{vector, IsClockBefore}
use Rattle.pg_plane.specs.Law.{direction}
use Rattle.plane_drawings.specs.Drawing.{place, IsPlaneDrawing, IsBreak, KeepsRotations}
use Rattle.plane_drawings.proofs.OneBreak.{one_of_lists}
use Rattle.convex_laws.specs.Middles.{next, IsPlaneRound}
use Rattle.convex_laws.proofs.Inverse.{inverse, inverse-is}

module _ (lists : Lists) (simple : IsSimpleMap lists) where
  -- the step along the face on the left, and back
  abbrev pub step : ℕ → ℕ
  step i = rotation lists (twin lists i)

  abbrev pub back : ℕ → ℕ
  back i = inverse step (dart_count lists) i

  pub steps : IsPermuting step (dart_count lists)
  steps = IsPermuting-after (rotation lists) (twin lists) (dart_count lists) (IsPermuting-rotation lists simple) (IsPermuting-pairing (twin lists) (dart_count lists) (IsPairing-twin lists simple))

  pub twins_in : (i : ℕ) → i < dart_count lists → twin lists i < dart_count lists
  twins_in i l = (IsPairing-twin lists simple).within i l

  pub back_in : (i : ℕ) → i < dart_count lists → back i < dart_count lists
  back_in i l = (inverse-is step (dart_count lists) steps i l).0

  pub step_back : (i : ℕ) → i < dart_count lists → step (back i) ≡ i
  step_back i l = (inverse-is step (dart_count lists) steps i l).1

  -- the head of a dart is where the step goes on from
  pub head_tail : (i : ℕ) → i < dart_count lists → tail_of lists (step i) ≡ (dart_of lists i).1
  head_tail i l = tail_of-rotation lists simple (twin lists i) (twins_in i l) ∙ ap (λ (d : Dart). d.0) (dart_of-twin lists simple i l)

  pub has_dart : (i : ℕ) → i < dart_count lists → HasDart lists (dart_of lists i).0 (dart_of lists i).1
  has_dart i l = (dart_of-number lists simple i l).is_dart

  -- the step of a dart
  pub dart_of-step : (i : ℕ) → i < dart_count lists → dart_of lists (step i) ≡ ((dart_of lists i).1, follows lists (dart_of lists i).1 (dart_of lists i).0)
  dart_of-step i l = dart_of-rotation lists simple (twin lists i) (twins_in i l) ∙ ap (λ (d : Dart). (d.0, follows lists d.0 d.1)) (dart_of-twin lists simple i l)

  abbrev pub number : ℕ → ℕ → ℕ
  number u v = dart_number lists (u, v)

  pub number_in : (u v : ℕ) → HasDart lists u v → number u v < dart_count lists
  number_in u v has = dart_number-lt lists u v has

  pub number_dart : (u v : ℕ) → HasDart lists u v → dart_of lists (number u v) ≡ (u, v)
  number_dart u v has = get_or-dart_number lists u v (0, 0) has

  pub number_tail : (u v : ℕ) → HasDart lists u v → tail_of lists (number u v) ≡ u
  number_tail u v has = ap (λ (d : Dart). d.0) (number_dart u v has)

  pub number_head : (u v : ℕ) → HasDart lists u v → tail_of lists (step (number u v)) ≡ v
  number_head u v has = head_tail (number u v) (number_in u v has) ∙ ap (λ (d : Dart). d.1) (number_dart u v has)

  module _ (points : List Point) (joined : (v : ℕ) → v < length lists → (u : ℕ) × HasDart lists v u) (q : ℕ → Point) (placed : (v : ℕ) → v < length lists → place points v ≡ q v) (rank : ℕ → ℕ) (ranks : (u v : ℕ) → u < length lists → v < length lists → rank u ≡ rank v → u ≡ v) (p : IsPlaneRound (dart_count lists) (twin lists) step back (λ i. q (tail_of lists i)) (λ i. rank (tail_of lists i))) where
    -- the points of a dart
    tail_point : (u v : ℕ) → HasDart lists u v → q (tail_of lists (number u v)) ≡ place points u
    tail_point u v has = ap q (number_tail u v has) ∙ sym (placed u has.0)

    head_point : (u v : ℕ) → HasDart lists u v → q (tail_of lists (step (number u v))) ≡ place points v
    head_point u v has = ap q (number_head u v has) ∙ sym (placed v (simple.in_range u v has))

    rank_tail : (u v : ℕ) → HasDart lists u v → rank (tail_of lists (number u v)) ≡ rank u
    rank_tail u v has = ap rank (number_tail u v has)

    rank_head : (u v : ℕ) → HasDart lists u v → rank (tail_of lists (step (number u v))) ≡ rank v
    rank_head u v has = ap rank (number_head u v has)

    pub is_plane : IsPlaneDrawing lists points
    is_plane = record {
      apart = λ u v lu lv ne same.
          let a = joined u lu in
          let b = joined v lv in
          ne (ranks u v lu lv (sym (rank_tail u a.0 a.1) ∙ p.apart (number u a.0) (number v b.0) (number_in u a.0 a.1) (number_in v b.0 b.1) (tail_point u a.0 a.1 ∙ same ∙ sym (tail_point v b.0 b.1)) ∙ rank_tail v b.0 b.1));
      off_edges = λ u v w has lw nu nv on.
          let b = joined w lw in
          p.off_edges (number u v) (number w b.0) (number_in u v has) (number_in w b.0 b.1)
          (λ e. nu (ranks w u lw has.0 (sym (rank_tail w b.0 b.1) ∙ e ∙ rank_tail u v has)))
          (λ e. nv (ranks w v lw (simple.in_range u v has) (sym (rank_tail w b.0 b.1) ∙ e ∙ rank_head u v has)))
          (rw (tail_point w b.0 b.1, tail_point u v has, head_point u v has) on);
      no_crossing = λ a b e f has has' n1 n2 n3 n4 x.
          p.no_crossing (number a b) (number e f) (number_in a b has) (number_in e f has')
          (rw (tail_point a b has, head_point a b has, tail_point e f has', head_point e f has') x);
    }

    rotations : IsPermuting (rotation lists) (dart_count lists)
    rotations = IsPermuting-rotation lists simple

    -- the dart before the next one in a list is itself
    next_turned : (i : ℕ) → i < dart_count lists → next (twin lists) back (rotation lists i) ≡ i
    next_turned i l =
        let twice = (IsPairing-twin lists simple).back i l in
        let r = rotations.within i l in
        let same : step (back (rotation lists i)) ≡ step (twin lists i) = step_back (rotation lists i) r ∙ ap (rotation lists) (sym twice) in
        ap (twin lists) (steps.apart (back (rotation lists i)) (twin lists i) (back_in (rotation lists i) r) (twins_in i l) same) ∙ twice

    abbrev way : ℕ → Point
    way i = direction step (λ j. q (tail_of lists j)) i

    way_is : (i : ℕ) → i < dart_count lists → way i ≡ vector (place points (dart_of lists i).0) (place points (dart_of lists i).1)
    way_is i l =
        let has = has_dart i l in
        ap (λ (z : Point). vector z (q (tail_of lists (step i)))) (sym (placed (dart_of lists i).0 has.0)) ∙ ap (λ (z : Point). vector (place points (dart_of lists i).0) z) (ap q (head_tail i l) ∙ sym (placed (dart_of lists i).1 (simple.in_range (dart_of lists i).0 (dart_of lists i).1 has)))

    next_way : (i : ℕ) → i < dart_count lists → way (rotation lists i) ≡ vector (place points (dart_of lists i).0) (place points (follows lists (dart_of lists i).0 (dart_of lists i).1))
    next_way i l = way_is (rotation lists i) (rotations.within i l) ∙ ap (λ (d : Dart). vector (place points d.0) (place points d.1)) (dart_of-rotation lists simple i l)

    turned_way : (i : ℕ) → i < dart_count lists → way (next (twin lists) back (rotation lists i)) ≡ vector (place points (dart_of lists i).0) (place points (dart_of lists i).1)
    turned_way i l = ap (λ (x : ℕ). way x) (next_turned i l) ∙ way_is i l

    break_from : (i : ℕ) → i < dart_count lists → ¬ IsClockBefore (way (next (twin lists) back (rotation lists i))) (way (rotation lists i)) → IsBreak lists points (dart_of lists i).0 (dart_of lists i).1
    break_from i l b = λ x. b (subst (λ (z : Point). IsClockBefore z (way (rotation lists i))) (sym (turned_way i l)) (subst (λ (z : Point). IsClockBefore (vector (place points (dart_of lists i).0) (place points (dart_of lists i).1)) z) (sym (next_way i l)) x))

    break_to : (i : ℕ) → i < dart_count lists → IsBreak lists points (dart_of lists i).0 (dart_of lists i).1 → ¬ IsClockBefore (way (next (twin lists) back (rotation lists i))) (way (rotation lists i))
    break_to i l b = λ x. b (subst (λ (z : Point). IsClockBefore (vector (place points (dart_of lists i).0) (place points (dart_of lists i).1)) z) (next_way i l) (subst (λ (z : Point). IsClockBefore z (way (rotation lists i))) (turned_way i l) x))

    -- a tail is told by its rank
    tail_in : (i : ℕ) → i < dart_count lists → tail_of lists i < length lists
    tail_in i l = (has_dart i l).0

    pub rotations_kept : KeepsRotations lists points
    rotations_kept v lv two = record {
      some =
          let a = joined v lv in
          let found = p.some_break (number v a.0) (number_in v a.0 a.1) in
          let i = found.0 in
          let before = next (twin lists) back i in
          let lb : before < dart_count lists = twins_in (back i) (back_in i found.1) in
          let again : rotation lists before ≡ i = step_back i found.1 in
          let at_v : tail_of lists i ≡ v = ranks (tail_of lists i) v (tail_in i found.1) lv (found.2 ∙ rank_tail v a.0 a.1) in
          let tail_is : (dart_of lists before).0 ≡ v = sym (tail_of-rotation lists simple before lb) ∙ ap (tail_of lists) again ∙ at_v in
          let broken = break_from before lb (subst (λ (x : ℕ). ¬ IsClockBefore (way (next (twin lists) back x)) (way x)) (sym again) found.3) in (
            (dart_of lists before).1,
            subst (λ (x : ℕ). HasDart lists x (dart_of lists before).1) tail_is (has_dart before lb),
            subst (λ (x : ℕ). IsBreak lists points x (dart_of lists before).1) tail_is broken,
          );
      one = one_of_lists lists simple points (λ i j li lj tails bi bj. p.one_break (rotation lists i) (rotation lists j) (rotations.within i li) (rotations.within j lj) (ap rank tails) (break_to i li bi) (break_to j lj bj)) v;
    }
