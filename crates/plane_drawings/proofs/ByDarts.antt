-- A counterclockwise drawing of a triangulation, said of its darts by their numbers.
use Rattle.std.proofs.Common.{◌≡◌, ℕ, ◌<◌, false, List, ℤ, pos, ◌<ℤ◌, refl, sym, ap, ap₂, subst, ◌∙◌, inl, inr}
use Rattle.std.proofs.lemmas.Bool.{true≢false}
use Rattle.classes.proofs.Classes.{Together, Together-from}
use Rattle.classes.proofs.Orbits.{IsPermuting, orbits_of, orbits_of-lies}
use Rattle.classes.proofs.Bound.{after, IsPairing, IsPermuting-pairing, IsPermuting-after}
use Rattle.map_lists.specs.Lists.{Lists}
use Rattle.map_theory.specs.Maps.{Dart, HasDart, follows, face_step, dart_number, dart_count, face_classes}
use Rattle.map_theory.specs.Paths.{SameFace}
use Rattle.map_theory.proofs.DartLemmas.{dart_number-lt, get_or-dart_number}
use Rattle.map_theory.proofs.DartPermutations.{dart_of, tail_of, turned_dart, rotation, twin, dart_of-number, dart_of-twin, dart_of-rotation, IsPermuting-rotation, IsPairing-twin, orbits-face_images, tail_of-rotation}
use Rattle.plane_laws.proofs.Triangles.{triangles_where_met}
use Rattle.pg_plane.specs.declared.grid_points.Point.{Point}
use Rattle.pg_plane.specs.Geometry.{area}
use Rattle.pg_plane.specs.Faced.{in_base, IsFaced, IsTailed}
use Rattle.pg_plane.proofs.Near.{IsOnFace}
use Rattle.pg_plane.proofs.Faces.{in_base_from, face_back, face_then}
use Rattle.plane_drawings.specs.Drawing.{place, IsCounterclockwise}
use Rattle.plane_laws.specs.Triangulations.{IsTriangulation}

module _ (lists : Lists) (points : List Point) (base : Dart) (c : IsTriangulation lists) (has : HasDart lists base.0 base.1) (turns : IsCounterclockwise lists points base) where
  abbrev pub k : ℕ
  k = dart_count lists

  abbrev pub g : ℕ → ℕ
  g = twin lists

  abbrev pub h : ℕ → ℕ
  h = after (rotation lists) (twin lists)

  abbrev pub at : ℕ → Point
  at i = place points (tail_of lists i)

  pairs : IsPairing g k
  pairs = IsPairing-twin lists c.simple

  steps : IsPermuting h k
  steps = IsPermuting-after (rotation lists) (twin lists) k (IsPermuting-rotation lists c.simple) (IsPermuting-pairing (twin lists) k pairs)

  -- the step along the face, as a dart
  dart_of-step : (i : ℕ) → i < k → dart_of lists (h i) ≡ face_step lists (dart_of lists i)
  dart_of-step i l = dart_of-rotation lists c.simple (g i) (pairs.within i l) ∙ ap (turned_dart lists) (dart_of-twin lists c.simple i l)

  has_dart : (i : ℕ) → i < k → HasDart lists (dart_of lists i).0 (dart_of lists i).1
  has_dart i l = (dart_of-number lists c.simple i l).is_dart

  pub thrice : (i : ℕ) → i < k → h (h (h i)) ≡ i
  thrice i l =
      let l1 = steps.within i l in
      let l2 = steps.within (h i) l1 in
      let l3 = steps.within (h (h i)) l2 in
      let round : dart_of lists (h (h (h i))) ≡ dart_of lists i =
      dart_of-step (h (h i)) l2 ∙ ap (face_step lists) (dart_of-step (h i) l1 ∙ ap (face_step lists) (dart_of-step i l)) ∙ triangles_where_met lists c.simple c.plane c.some c.edges (dart_of lists i) (has_dart i l) in
      sym (dart_of-number lists c.simple (h (h (h i))) l3).number ∙ ap (dart_number lists) round ∙ (dart_of-number lists c.simple i l).number

  head : (i : ℕ) → i < k → tail_of lists (h i) ≡ tail_of lists (g i)
  head i l = tail_of-rotation lists c.simple (g i) (pairs.within i l)

  pub tailed : IsTailed k g h at (tail_of lists)
  tailed = record { tails = head; places = λ i j li lj e. ap (place points) e }

  -- the places of a face, by its dart
  second_place : (i : ℕ) → i < k → at (h i) ≡ place points (dart_of lists i).1
  second_place i l = ap (λ (d : Dart). place points d.0) (dart_of-step i l)

  third_place : (i : ℕ) → i < k → at (h (h i)) ≡ place points (follows lists (dart_of lists i).1 (dart_of lists i).0)
  third_place i l = ap (λ (d : Dart). place points d.0) (dart_of-step (h i) (steps.within i l) ∙ ap (face_step lists) (dart_of-step i l))

  abbrev pub b : ℕ
  b = dart_number lists base

  b_in : b < k
  b_in = dart_number-lt lists base.0 base.1 has

  -- the darts in one face with the base are its three
  on_base : (i : ℕ) → i < k → Together (orbits_of h k) b i → IsOnFace h b i
  on_base i l t =
      orbits_of-lies (λ x y. IsOnFace h x y) h k steps.within (record {
        itself = λ x lx. inl refl;
        turned = λ x y lx ly o. face_back k h thrice x y lx o;
        chained = λ x y z lx ly lz o p. face_then k h thrice x y z lx o p;
      }) (λ x lx. inr (inl refl)) b i b_in l t

  base_is : dart_of lists b ≡ base
  base_is = get_or-dart_number lists base.0 base.1 (0, 0) has

  area_is : (i : ℕ) → i < k → area (at i) (at (h i)) (at (h (h i))) ≡ area (place points (dart_of lists i).0) (place points (dart_of lists i).1) (place points (follows lists (dart_of lists i).1 (dart_of lists i).0))
  area_is i l = ap₂ (λ (y z : Point). area (at i) y z) (second_place i l) (third_place i l)

  off_base : (i : ℕ) → i < k → in_base h b i ≡ false → ¬ SameFace lists base (dart_of lists i)
  off_base i l e same =
      let t : Together (orbits_of h k) b i =
      subst (λ n. Together (orbits_of h k) b n) (dart_of-number lists c.simple i l).number
      (subst (λ (labels : List ℕ). Together labels b (dart_number lists (dart_of lists i))) (orbits-face_images lists c.simple) (Together-from (face_classes lists) b (dart_number lists (dart_of lists i)) same)) in
      true≢false (sym (in_base_from h b i (on_base i l t)) ∙ e)

  pub faced : IsFaced k g h at b
  faced = record {
    twins = IsPermuting-pairing (twin lists) k pairs;
    steps = steps;
    back = pairs.back;
    thrice = thrice;
    head = λ i l. ap (place points) (head i l);
    base_in = b_in;
    inner = λ i l e. subst (λ (z : ℤ). pos 0 <ℤ z) (sym (area_is i l)) (turns.inner (dart_of lists i).0 (dart_of lists i).1 (has_dart i l) (off_base i l e));
    outer = subst (λ (z : ℤ). z <ℤ pos 0) (sym (area_is b b_in ∙ ap (λ (d : Dart). area (place points d.0) (place points d.1) (place points (follows lists d.1 d.0))) base_is)) turns.outer;
  }
