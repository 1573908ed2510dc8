-- The faces of a triangulation: three darts each.
use Rattle.std.proofs.Common.{◌≡◌, ℕ, ◌<◌, ◌⊎◌, Bool, true, false, eqb, ◌||◌, List, length, ℤ, pos, ◌<ℤ◌, refl, sym, ap, subst, ◌∙◌, inl, inr, arith, eqb-true}
use Rattle.std.proofs.lemmas.Bool.{cases_lt}
use Rattle.std.proofs.lemmas.Int.{ints, by_lt_z}
use Rattle.classes.specs.Classes.{image}
use Rattle.classes.proofs.Classes.{Together, Together-from, same_class-from}
use Rattle.classes.proofs.Orbits.{orbits-step, orbits-closed_marks}
use Rattle.map_lists.specs.Lists.{Lists}
use Rattle.map_theory.specs.Maps.{Dart, HasDart, follows, face_step, dart_number, face_images, face_classes}
use Rattle.map_theory.specs.Paths.{SameFace}
use Rattle.map_theory.proofs.DartLemmas.{dart_number-lt, get_or-dart_number, dart_number-injective, HasDart-face_step, length-face_images, get_or-face_images, IsPermutationOfBelow-face_images}
use Rattle.plane_laws.specs.Triangulations.{IsTriangulation}
use Rattle.plane_laws.proofs.Triangles.{triangles_where_met}
use Rattle.pg_plane.specs.Faced.{in_base}
use Rattle.pg_plane.proofs.Near.{IsOnFace}
use Rattle.pg_plane.proofs.Faces.{in_base_from}

-- a dart that passes the test lies on the face
on_face_from : (step : ℕ → ℕ) (b i : ℕ) → in_base step b i ≡ true → IsOnFace step b i
on_face_from step b i e = grind (arith, eqb, eqb-true)

module _ (lists : Lists) (c : IsTriangulation lists) where
  -- three steps lead back
  pub thrice : (d : Dart) → HasDart lists d.0 d.1 → face_step lists (face_step lists (face_step lists d)) ≡ d
  thrice d has = triangles_where_met lists c.simple c.plane c.some c.edges d has

  pub step_dart : (d : Dart) → HasDart lists d.0 d.1 → HasDart lists (face_step lists d).0 (face_step lists d).1
  step_dart d has = HasDart-face_step lists d c.simple has

  -- the image of a dart's number is that of the next dart along its face
  image_is : (d : Dart) → HasDart lists d.0 d.1 → image (face_images lists) (dart_number lists d) ≡ dart_number lists (face_step lists d)
  image_is d has =
      get_or-face_images lists (dart_number lists d) (dart_number lists d) (0, 0) (dart_number-lt lists d.0 d.1 has)
      ∙ ap (λ (x : Dart). dart_number lists (face_step lists x)) (get_or-dart_number lists d.0 d.1 (0, 0) has)

  number_in : (d : Dart) → HasDart lists d.0 d.1 → dart_number lists d < length (face_images lists)
  number_in d has = let l = dart_number-lt lists d.0 d.1 has in let n = length-face_images lists in omega arith

  together_step : (d : Dart) → HasDart lists d.0 d.1 → Together (face_classes lists) (dart_number lists d) (dart_number lists (face_step lists d))
  together_step d has =
      subst (λ (x : ℕ). Together (face_classes lists) (dart_number lists d) x) (image_is d has)
      (orbits-step (face_images lists) (IsPermutationOfBelow-face_images lists c.simple).within (dart_number lists d) (number_in d has))

  -- the next dart along a face is on it
  pub same_step : (b d : Dart) → HasDart lists d.0 d.1 → SameFace lists b d → SameFace lists b (face_step lists d)
  same_step b d has same =
      same_class-from (face_classes lists) (dart_number lists b) (dart_number lists (face_step lists d))
      (Together-from (face_classes lists) (dart_number lists b) (dart_number lists d) same ∙ together_step d has)

  pub same_back : (b d : Dart) → HasDart lists d.0 d.1 → SameFace lists b (face_step lists d) → SameFace lists b d
  same_back b d has same =
      same_class-from (face_classes lists) (dart_number lists b) (dart_number lists d)
      (Together-from (face_classes lists) (dart_number lists b) (dart_number lists (face_step lists d)) same ∙ sym (together_step d has))

  pub same_itself : (d : Dart) → SameFace lists d d
  same_itself d = same_class-from (face_classes lists) (dart_number lists d) (dart_number lists d) refl

  module _ (b : Dart) (has : HasDart lists b.0 b.1) where
    -- the three numbers of the base's face
    abbrev mark : ℕ → Bool
    mark i = in_base (image (face_images lists)) (dart_number lists b) i

    first_image : image (face_images lists) (dart_number lists b) ≡ dart_number lists (face_step lists b)
    first_image = image_is b has

    second_image : image (face_images lists) (image (face_images lists) (dart_number lists b)) ≡ dart_number lists (face_step lists (face_step lists b))
    second_image = ap (image (face_images lists)) first_image ∙ image_is (face_step lists b) (step_dart b has)

    third_image : image (face_images lists) (image (face_images lists) (image (face_images lists) (dart_number lists b))) ≡ dart_number lists b
    third_image =
        ap (image (face_images lists)) second_image ∙ (image_is (face_step lists (face_step lists b)) (step_dart (face_step lists b) (step_dart b has)) ∙ ap (dart_number lists) (thrice b has))

    on_next : (i : ℕ) → IsOnFace (image (face_images lists)) (dart_number lists b) i → IsOnFace (image (face_images lists)) (dart_number lists b) (image (face_images lists) i)
    on_next i (inl e) = inr (inl (ap (image (face_images lists)) e))
    on_next i (inr (inl e)) = inr (inr (ap (image (face_images lists)) e))
    on_next i (inr (inr e)) = inl (ap (image (face_images lists)) e ∙ third_image)

    -- a dart on the face of the base is one of its three
    pub on_base : (d : Dart) → HasDart lists d.0 d.1 → SameFace lists b d → (d ≡ b) ⊎ ((d ≡ face_step lists b) ⊎ (d ≡ face_step lists (face_step lists b)))
    on_base d has' same =
        let step = image (face_images lists) in
        let marks = orbits-closed_marks (face_images lists) (IsPermutationOfBelow-face_images lists c.simple) mark
        (λ i l m. in_base_from step (dart_number lists b) (step i) (on_next i (on_face_from step (dart_number lists b) i m)))
        (dart_number lists b) (dart_number lists d) (number_in b has) (number_in d has')
        (Together-from (face_classes lists) (dart_number lists b) (dart_number lists d) same) in
        let marked : mark (dart_number lists d) ≡ true = sym marks ∙ in_base_from step (dart_number lists b) (dart_number lists b) (inl refl) in
        elim (on_face_from step (dart_number lists b) (dart_number lists d) marked) [
          | inl e ↦ inl (dart_number-injective lists d b has' has e)
          | inr o ↦ elim o [
            | inl e ↦ inr (inl (dart_number-injective lists d (face_step lists b) has' (step_dart b has) (e ∙ first_image)))
            | inr e ↦ inr (inr (dart_number-injective lists d (face_step lists (face_step lists b)) has' (step_dart (face_step lists b) (step_dart b has)) (e ∙ second_image)))
          ]
        ]
