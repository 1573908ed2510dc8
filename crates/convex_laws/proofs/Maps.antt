-- A map with a whole run is drawn by its counts.
use Rattle.std.proofs.Common.{◌≡◌, ◌≢◌, ◌⊎◌, ℕ, suc, ◌+◌, ◌-◌, ◌<◌, ◌≤◌, List, length, pos, ◌≤ℤ◌, ◌<ℤ◌, sym, ap, ap₂, subst, ◌∙◌, inl, inr, arith}
use Rattle.std.proofs.lemmas.Bool.{cases_order}
use Rattle.std.proofs.lemmas.Int.{ints}
use Rattle.classes.proofs.Bound.{IsPermuting-pairing}
use Rattle.map_lists.specs.Lists.{Lists}
use Rattle.map_theory.specs.Maps.{Dart, HasDart, follows, dart_number, dart_count}
use Rattle.map_theory.proofs.DartLemmas.{HasDart-follows}
use Rattle.map_theory.proofs.DartPermutations.{dart_of, tail_of, twin, dart_of-number, IsPairing-twin, tail_of-rotation}
use Rattle.pg_plane.specs.declared.grid_points.Point.{Point}
use Rattle.pg_plane.specs.Geometry.{area, IsOnSegment}
use Rattle.plane_drawings.specs.Drawing.{place}
use Rattle.contour_runs.specs.Wood.{Coordinates, point_of}
use Rattle.contour_runs.specs.FaceRuns.{Step, stage_after, IsDartOf, faces_made}
use Rattle.contour_runs.proofs.FaceRunsStages.{IsStage-run}
use Rattle.convex_counts.specs.Counts.{face_counts}
use Rattle.convex_counts.specs.FacePointsLaws.{IsWholeRun}
use Rattle.convex_counts.proofs.Corners.{cornered}
use Rattle.convex_counts.proofs.Walks.{corners_convex}
use Rattle.convex_counts.proofs.Outer.{outer_triangle}
use Rattle.convex_laws.specs.Middles.{IsPlaneRound}
use Rattle.convex_laws.specs.FaceDrawings.{IsRunDart}
use Rattle.convex_laws.proofs.Joined.{face_counts_draw, AreDartsOf}
use Rattle.convex_laws.specs.ConvexDrawings.{IsRunMap, AreCountPoints, IsConvexDrawing, ConvexRunDraws, grid_point}
use Rattle.convex_laws.proofs.Rounds.{step, back, steps, twins_in, back_in, step_back, head_tail, has_dart, dart_of-step, number, number_in, number_dart, number_tail, number_head, is_plane, rotations_kept}
use Rattle.convex_laws.proofs.FaceNumbers.{made-less}

-- the number of a face tells its step
same_number : (s : ℕ → Step) (k l i j : ℕ) → i < (s k).faces → j < (s l).faces → faces_made s k + i ≡ faces_made s l + j → (k ≡ l) × (i ≡ j)
same_number s k l i j li lj e = elim (cases_order k l) [
  | inl same ↦ let f = ap (faces_made s) same in (same, omega arith)
  | inr (inl m) ↦ let f = made-less s l k i m li in absurd (omega arith)
  | inr (inr m) ↦ let f = made-less s k l j m lj in absurd (omega arith)
]

module _ (lists : Lists) (base : Dart) (s : ℕ → Step) (n : ℕ) (rank : ℕ → ℕ) (face : ℕ → ℕ → ℕ) (m : IsRunMap lists base s n rank face) where
  abbrev face_of : ℕ → ℕ
  face_of i = face (dart_of lists i).0 (dart_of lists i).1

  darts : AreDartsOf s n (dart_count lists) (twin lists) (step lists m.simple) (back lists m.simple) (λ i. rank (tail_of lists i)) face_of (number lists m.simple base.0 base.1)
  darts = record {
    twins = IsPermuting-pairing (twin lists) (dart_count lists) (IsPairing-twin lists m.simple);
    steps_on = steps lists m.simple;
    twice = λ i l. (IsPairing-twin lists m.simple).back i l;
    back_in = back_in lists m.simple;
    step_back = step_back lists m.simple;
    tails = λ i l. ap rank (tail_of-rotation lists m.simple (twin lists i) (twins_in lists m.simple i l));
    faces = λ i l. ap (λ (d : Dart). face d.0 d.1) (dart_of-step lists m.simple i l) ∙ m.faces (dart_of lists i).0 (dart_of lists i).1 (has_dart lists m.simple i l);
    on_face = λ i l. subst (λ v. IsRunDart s n (rank (dart_of lists i).0) v (face_of i)) (ap rank (sym (head_tail lists m.simple i l))) (m.on_face (dart_of lists i).0 (dart_of lists i).1 (has_dart lists m.simple i l));
    base_in = number_in lists m.simple base.0 base.1 m.dart;
    base_dart = record {
      tail = ap rank (number_tail lists m.simple base.0 base.1 m.dart) ∙ m.second;
      head = ap rank (number_head lists m.simple base.0 base.1 m.dart) ∙ m.first;
      number = ap (λ (d : Dart). face d.0 d.1) (number_dart lists m.simple base.0 base.1 m.dart) ∙ m.outer;
    };
    one_base = λ i l e f.
        let has = has_dart lists m.simple i l in
        let x = m.ranks (dart_of lists i).0 base.0 has.0 m.dart.0 (e ∙ sym m.second) in
        let y = m.ranks (dart_of lists i).1 base.1 (m.simple.in_range (dart_of lists i).0 (dart_of lists i).1 has) (m.simple.in_range base.0 base.1 m.dart) (ap rank (sym (head_tail lists m.simple i l)) ∙ f ∙ sym m.first) in
        sym (dart_of-number lists m.simple i l).number ∙ ap₂ (λ u v. dart_number lists (u, v)) x y;
  }

  module _ (points : List Point) (whole : IsWholeRun s n) (some : 0 < n) (placed : AreCountPoints lists s n rank points) where
    abbrev at : Coordinates
    at = face_counts s n

    plane : IsPlaneRound (dart_count lists) (twin lists) (step lists m.simple) (back lists m.simple) (λ i. point_of at (rank (tail_of lists i))) (λ i. rank (tail_of lists i))
    plane = face_counts_draw s n (dart_count lists) (twin lists) (step lists m.simple) (back lists m.simple) (λ i. rank (tail_of lists i)) face_of (number lists m.simple base.0 base.1) whole some darts

    -- what holds of points holds of places
    as_placed : (x y z : ℕ) → x < length lists → y < length lists → z < length lists → pos 0 ≤ℤ area (point_of at (rank x)) (point_of at (rank y)) (point_of at (rank z)) → pos 0 ≤ℤ area (place points x) (place points y) (place points z)
    as_placed x y z lx ly lz h = rw (placed x lx, placed y ly, placed z lz) h

    inner : (x y : ℕ) → HasDart lists x y → face x y ≢ faces_made s n → pos 0 ≤ℤ area (place points x) (place points y) (place points (follows lists y x))
    inner x y has ne =
        let back_dart = m.simple.both_ways x y has in
        let next = HasDart-follows lists y x back_dart in
        let same = m.faces x y has in
        as_placed x y (follows lists y x) has.0 back_dart.0 (m.simple.in_range y (follows lists y x) next)
        (elim (m.on_face x y has) [
          | inl a ↦ elim (m.on_face y (follows lists y x) next) [
            | inl b ↦
                let one = same_number s a.step b.step a.place b.place a.dart.within b.dart.within (omega arith) in
                let moved = subst (λ k. IsDartOf (stage_after s k) (s k) b.place (rank y) (rank (follows lists y x))) (sym one.0) b.dart in
                corners_convex s n a.step a.place (rank x) (rank y) (rank (follows lists y x)) whole.turned a.earlier a.dart (subst (λ i. IsDartOf (stage_after s a.step) (s a.step) i (rank y) (rank (follows lists y x))) (sym one.1) moved)
            | inr (inl b) ↦ absurd (ne (sym same ∙ b.number))
            | inr (inr b) ↦ absurd (ne (sym same ∙ b.number))
          ]
          | inr (inl a) ↦ absurd (ne a.number)
          | inr (inr a) ↦ absurd (ne a.number)
        ])

    -- the ends of the base
    first_in : base.1 < length lists
    first_in = m.simple.in_range base.0 base.1 m.dart

    first_at : place points base.1 ≡ point_of at 0
    first_at = placed base.1 first_in ∙ ap (point_of at) m.first

    second_at : place points base.0 ≡ point_of at 1
    second_at = placed base.0 m.dart.0 ∙ ap (point_of at) m.second

    side : (j e v : ℕ) → suc e ≡ (stage_after s n).count → j < (stage_after s n).width → (stage_after s n).vertex j ≡ v → IsOnSegment (point_of at v) (point_of at 0) (point_of at e) ⊎ IsOnSegment (point_of at v) (point_of at e) (point_of at 1)
    side j e v last l same =
        subst (λ u. IsOnSegment (point_of at u) (point_of at 0) (point_of at e) ⊎ IsOnSegment (point_of at u) (point_of at e) (point_of at 1)) same ((outer_triangle s n e whole some last).sides j l)

    sides : (x y e : ℕ) → HasDart lists x y → face x y ≡ faces_made s n → e < length lists → suc (rank e) ≡ (stage_after s n).count → IsOnSegment (place points x) (place points base.1) (place points e) ⊎ IsOnSegment (place points x) (place points e) (place points base.0)
    sides x y e has outer le last =
        let stage = IsStage-run s n whole.turned.run in
        let on : IsOnSegment (point_of at (rank x)) (point_of at 0) (point_of at (rank e)) ⊎ IsOnSegment (point_of at (rank x)) (point_of at (rank e)) (point_of at 1) =
        elim (m.on_face x y has) [
          | inl a ↦ let f = a.number in let less = made-less s n a.step a.place a.earlier a.dart.within in absurd (omega arith)
          | inr (inl a) ↦ let w = a.along.within in side a.place (rank e) (rank x) last (omega arith) a.along.tail
          | inr (inr a) ↦ let w : ℕ = (stage_after s n).width - 1 in side w (rank e) (rank x) last (omega arith) (stage.end w (omega arith) ∙ sym a.tail)
        ] in
        rw (placed x has.0, first_at, second_at, placed e le) on

    corners : (e : ℕ) → e < length lists → suc (rank e) ≡ (stage_after s n).count → pos 0 <ℤ area (place points base.1) (place points base.0) (place points e)
    corners e le last = rw (first_at, second_at, placed e le) (outer_triangle s n (rank e) whole some last).corners

    drawing : IsConvexDrawing lists base s n rank face points
    drawing = record {
      plane = is_plane lists m.simple points m.joined (λ v. point_of at (rank v)) placed rank m.ranks plane;
      rotations = rotations_kept lists m.simple points m.joined (λ v. point_of at (rank v)) placed rank m.ranks plane;
      grid = λ v l.
          let g = (cornered s n whole).grid (rank v) (m.placed v l) in
          rw (placed v l) record { left = omega (arith, ints); right = omega (arith, ints); bottom = omega (arith, ints); top = omega (arith, ints) };
      first = first_at ∙ ap₂ grid_point (cornered s n whole).first.0 (cornered s n whole).first.1;
      second = second_at ∙ ap₂ grid_point (cornered s n whole).second.0 (cornered s n whole).second.1;
      last = λ e le last. let z = (cornered s n whole).last (rank e) last in placed e le ∙ ap₂ grid_point z.0 z.1;
      inner = inner;
      corners = corners;
      sides = sides;
    }

pub convex_run_draws : ConvexRunDraws
convex_run_draws lists base steps n rank face points whole some m placed = drawing lists base steps n rank face m points whole some placed
