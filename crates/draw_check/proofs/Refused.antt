-- Verdicts that wrong bodies would give, each on a small drawing.
use Rattle.std.proofs.Common.{ℕ, List, [], ◌∷◌, ℤ, pos, refl, inl, inr, ⊎_elim, arith}
use Rattle.std.proofs.lemmas.Int.{ints}
use Rattle.classes.specs.Classes.{merge}
use Rattle.map_lists.specs.Lists.{Lists}
use Rattle.map_lists.specs.declared.ids.VertexId.{VertexId}
use Rattle.map_theory.specs.Maps.{Dart, entry_after, component_count}
use Rattle.pg_plane.specs.declared.grid_points.Point.{Point}
use Rattle.pg_plane.specs.Geometry.{vector, IsFirstHalf, IsClockBefore}
use Rattle.draw_check.specs.FaceVerdicts.{IsFaceVerdict}
use Rattle.draw_check.specs.Outer.{IsOuterVerdict}
use Rattle.draw_check.specs.Verdicts.{IsVerdict, IsPlaneVerdict}
use Rattle.draw_check.specs.declared.verdict.FaceVerdict.TheVariants.{Wrong}
use Rattle.draw_check.specs.declared.verdict.OuterVerdict.TheVariants.{Inside}
use Rattle.draw_check.specs.declared.verdict.Verdict.TheVariants.{Yes}

abbrev point : ℕ → ℕ → Point
point x y = record { x = pos x; y = pos y }

abbrev id : ℕ → VertexId
id v = record { 0 = v }

abbrev triangle : Lists
triangle = (1 ∷ 2 ∷ []) ∷ (2 ∷ 0 ∷ []) ∷ (0 ∷ 1 ∷ []) ∷ []

-- the base's face, which is drawn counterclockwise, left out, and the other one named
base_face_left_out : (width height : ℤ) → IsFaceVerdict triangle (point 0 0 ∷ point 1 0 ∷ point 0 1 ∷ []) width height (0, 1) (Wrong (id 0) (id 2) (id 1)) → ⊥
unfolding merge entry_after
base_face_left_out width height v =
    v.1.rest.before 1 2 (omega arith) (record {
      dart = (omega arith, (0, omega arith, refl));
      third = refl;
      least = (omega arith, omega arith);
      wrong = λ well. omega (arith, ints, well.outer refl);
    })

-- a star of three edges drawn as in a mirror
abbrev star : List Point
star = point 1 1 ∷ point 0 1 ∷ point 1 0 ∷ point 2 2 ∷ []

not_down : IsFirstHalf (vector (point 1 1) (point 1 0)) → ⊥
not_down h = ⊎_elim (λ l. omega (arith, ints, l)) (λ l. omega (arith, ints, l.1)) h

mirrored_drawing_accepted : (width height : ℤ) → IsVerdict ((1 ∷ 2 ∷ 3 ∷ []) ∷ (0 ∷ []) ∷ (0 ∷ []) ∷ (0 ∷ []) ∷ []) star width height Yes → ⊥
unfolding entry_after
mirrored_drawing_accepted width height v =
    omega (arith, (v.4 0 (omega arith) (omega arith)).one 2 3 (omega arith, (1, omega arith, refl)) (omega arith, (2, omega arith, refl)) down_right right_left)
  where
    down_right : IsClockBefore (vector (point 1 1) (point 1 0)) (vector (point 1 1) (point 2 2)) → ⊥
    down_right b = ⊎_elim (λ x. not_down x.0) (λ x. ⊎_elim (λ y. not_down y.0) (λ y. y.1 (inl (omega (arith, ints)))) x) b

    right_left : IsClockBefore (vector (point 1 1) (point 2 2)) (vector (point 1 1) (point 0 1)) → ⊥
    right_left b = ⊎_elim (λ x. x.1 (inr (refl, omega (arith, ints)))) (λ x. ⊎_elim (λ y. omega (arith, ints, y.2)) (λ y. y.0 (inl (omega (arith, ints)))) x) b

-- two vertices at one place, where the sweep's "no" is taken for "yes"
no_of_the_sweep_taken_for_yes : (width height : ℤ) → IsVerdict ([] ∷ [] ∷ []) (point 0 0 ∷ point 0 0 ∷ []) width height Yes → ⊥
no_of_the_sweep_taken_for_yes width height v = v.1 0 1 (record { order = omega arith; vertex = omega arith; same = refl })

-- the same of the edges alone
one_place_called_plane : IsPlaneVerdict ([] ∷ [] ∷ []) (point 0 0 ∷ point 0 0 ∷ []) Yes → ⊥
one_place_called_plane v = v.0 0 1 (record { order = omega arith; vertex = omega arith; same = refl })

-- a face named for a triangle with an isolated vertex beside it
outer_of_two_components : (points : List Point) (base : Dart) (v u : VertexId) → IsOuterVerdict ((1 ∷ 2 ∷ []) ∷ (2 ∷ 0 ∷ []) ∷ (0 ∷ 1 ∷ []) ∷ [] ∷ []) points base (Inside v u) → ⊥
unfolding component_count merge
outer_of_two_components points base v u o = omega (arith, o.0)

-- a vertex on an edge forgotten
vertex_on_edge_forgotten : (width height : ℤ) → IsVerdict ((1 ∷ []) ∷ (0 ∷ []) ∷ [] ∷ []) (point 0 0 ∷ point 2 0 ∷ point 1 0 ∷ []) width height Yes → ⊥
vertex_on_edge_forgotten width height v =
    v.2 2 0 1 (record {
      vertex = omega arith;
      edge = (omega arith, (omega arith, (0, omega arith, refl)));
      not_first = λ e. omega (arith, e);
      not_second = λ e. omega (arith, e);
      on = record { on_line = refl; between_x = inl (omega (arith, ints), omega (arith, ints)); between_y = inl (omega (arith, ints), omega (arith, ints)) };
    })
