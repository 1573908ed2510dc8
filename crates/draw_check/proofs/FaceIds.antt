-- The darts of the base's face, and faces that are drawn well, as the calls of a map answer them.
use Rattle.std.proofs.Common.{◌≡◌, ℕ, ◌<◌, ◌⊎◌, Bool, true, false, not, MatchBool, List, Some, pos, ◌<ℤ◌, refl, sym, ap, subst, ◌∙◌, arith}
use Rattle.std.specs.Option.{option_map}
use Rattle.std.proofs.lemmas.Bool.{true≢false}
use Rattle.map_lists.specs.Lists.{Lists}
use Rattle.map_theory.specs.Maps.{Dart, HasDart, follows, face_step}
use Rattle.map_theory.specs.Paths.{SameFace}
use Rattle.map_theory.proofs.DartLemmas.{HasDart-face_step}
use Rattle.half_edges.specs.Map.{Map, IsHalfMap, IsLive, dart_at}
use Rattle.plane_laws.specs.Triangulations.{IsTriangulation}
use Rattle.pg_plane.specs.declared.grid_points.Point.{Point}
use Rattle.pg_plane.specs.Geometry.{area}
use Rattle.plane_drawings.specs.Drawing.{place}
use Rattle.vertex_rounds.specs.Rounds.{dart_of}
use Rattle.vertex_rounds.proofs.DartIds.{dart_of-live, dart_of-is, has_dart}
use Rattle.draw_check.specs.FaceVerdicts.{IsDrawnWell, IsDrawnWrong, IsWrongFrom}
use Rattle.vertex_rounds.specs.Least.{IsLeastPair, IsLeastTriple}
use Rattle.drawings.proofs.FaceSteps.{same_step, same_itself, on_base}

module _ (map : Map) (h : IsHalfMap map) where
  module _ (c : IsTriangulation map.lists) (base d second third : ℕ) (live : IsLive map base) (live' : IsLive map d) (step : dart_at map second ≡ option_map (face_step map.lists) (dart_at map base)) (step' : dart_at map third ≡ option_map (face_step map.lists) (dart_at map second)) where
    abbrev b : Dart
    b = dart_of map base

    has : HasDart map.lists b.0 b.1
    has = has_dart map h base live

    second_is : dart_at map second ≡ Some (face_step map.lists b)
    second_is = step ∙ ap (option_map (face_step map.lists)) (dart_of-live map base live)

    third_dart : dart_at map third ≡ Some (face_step map.lists (face_step map.lists b))
    third_dart = step' ∙ ap (option_map (face_step map.lists)) second_is

    to_face : (d ≡ base) ⊎ ((d ≡ second) ⊎ (d ≡ third)) → SameFace map.lists b (dart_of map d)
    to_face x0 = grind (arith, SameFace, dart_of, same_itself, Dart, dart_of-is, face_step, second_is, same_step, has, third_dart, HasDart-face_step)

    one_id : (e : ℕ) (x : Dart) → dart_at map e ≡ Some x → dart_of map d ≡ x → d ≡ e
    one_id e x is same = h.one_id d e x.0 x.1 (dart_of-live map d live' ∙ ap (λ (y : Dart). Some y) same) is

    from_face : SameFace map.lists b (dart_of map d) → (d ≡ base) ⊎ ((d ≡ second) ⊎ (d ≡ third))
    from_face same = grind (arith, on_base, has, dart_of, has_dart, one_id, dart_of-live, face_step, second_is, third_dart)

    -- a dart on the face of the base has one of three ids
    pub on_base_is : (r : Bool) → ((r ≡ true → (d ≡ base) ⊎ ((d ≡ second) ⊎ (d ≡ third))) × ((d ≡ base) ⊎ ((d ≡ second) ⊎ (d ≡ third)) → r ≡ true)) → (r ≡ true → SameFace map.lists (dart_of map base) (dart_of map d)) × (SameFace map.lists (dart_of map base) (dart_of map d) → r ≡ true)
    on_base_is r is = (λ t. to_face (is.0 t), λ s. is.1 (from_face s))

-- r says whether the area of three vertices has the sign that it should have
abbrev pub IsSign : List Point → Bool → Bool → ℕ → ℕ → ℕ → Type 0
IsSign points on r a b w =
    (r ≡ true → MatchBool on (area (place points a) (place points b) (place points w) <ℤ pos 0) (pos 0 <ℤ area (place points a) (place points b) (place points w)))
    × (MatchBool on (area (place points a) (place points b) (place points w) <ℤ pos 0) (pos 0 <ℤ area (place points a) (place points b) (place points w)) → r ≡ true)

module _ (lists : Lists) (points : List Point) (base : Dart) (a b w : ℕ) where
  -- a face is drawn well where its area has the sign that it should have
  pub well_is : (on r : Bool) → ((on ≡ true → SameFace lists base (a, b)) × (SameFace lists base (a, b) → on ≡ true)) → IsSign points on r a b w → (r ≡ true → IsDrawnWell lists points base a b w) × (IsDrawnWell lists points base a b w → r ≡ true)
  well_is true r face sign = (λ t. record { inner = λ off. absurd (off (face.0 refl)); outer = λ same. sign.0 t }, λ well. sign.1 (well.outer (face.0 refl)))
  well_is false r face sign = (λ t. record { inner = λ off. sign.0 t; outer = λ same. absurd (true≢false (sym (face.1 same))) }, λ well. sign.1 (well.inner (λ same. true≢false (sym (face.1 same)))))

  -- and drawn wrong where it has not
  pub wrong_is : (r : Bool) → HasDart lists a b → follows lists b a ≡ w → (a < b) × (a < w) → ((r ≡ true → IsDrawnWell lists points base a b w) × (IsDrawnWell lists points base a b w → r ≡ true)) → (not r ≡ true → IsDrawnWrong lists points base a b w) × (IsDrawnWrong lists points base a b w → not r ≡ true)
  wrong_is true has third least well = (λ t. absurd (true≢false (sym t)), λ wrong. absurd (wrong.wrong (well.0 refl)))
  wrong_is false has third least well = (λ t. record { dart = has; third = third; least = least; wrong = λ w'. true≢false (sym (well.1 w')) }, λ wrong. refl)

module _ (map : Map) (points : List Point) (base : ℕ) where
  -- three vertices of a face that is drawn wrong are told by the first two
  told_by_two : (a b w : ℕ) → IsDrawnWrong map.lists points (dart_of map base) a b w → IsWrongFrom map points base a b
  told_by_two a b w x = subst (IsDrawnWrong map.lists points (dart_of map base) a b) (sym x.third) x

  pub no_wrong_three : ((a b : ℕ) → ¬ IsWrongFrom map points base a b) → (a b w : ℕ) → ¬ IsDrawnWrong map.lists points (dart_of map base) a b w
  no_wrong_three none a b w x = none a b (told_by_two a b w x)

  pub least_wrong_three : (a b w : ℕ) → IsLeastPair (IsWrongFrom map points base) a b → follows map.lists b a ≡ w → IsLeastTriple (IsDrawnWrong map.lists points (dart_of map base)) a b w
  least_wrong_three a b w least third = grind (arith, told_by_two, IsDrawnWrong, dart_of)
