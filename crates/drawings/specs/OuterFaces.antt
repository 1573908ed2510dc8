-- Areas of faces, and when the face of a base dart is the outer one of a drawing: each other face has a positive area.
use Rattle.std.specs.Prelude.{ℕ, ◌≡◌, Bool, if◌then◌else◌, List, [], ◌∷◌, ℤ, pos, ◌+ℤ◌, ◌<ℤ◌}
use Rattle.classes.specs.Classes.{same_class}
use Rattle.map_lists.specs.Lists.{Lists}
use Rattle.map_theory.specs.Maps.{Dart, HasDart, darts, dart_number, face_classes, component_count}
use Rattle.map_theory.specs.Paths.{SameFace}
use Rattle.pg_plane.specs.declared.grid_points.Point.{Point}
use Rattle.pg_plane.specs.Geometry.{cross}
use Rattle.plane_drawings.specs.Drawing.{place}

-- twice the signed area of the triangle from (0, 0) along a dart
abbrev pub swept : List Point → Dart → ℤ
swept points d = cross (place points d.0) (place points d.1)

-- the sum of f over those darts of a list that pass a test
abbrev pub sum_over : (Dart → Bool) → (Dart → ℤ) → List Dart → ℤ
sum_over p f [] = pos 0
sum_over p f (d ∷ ds) = (if p d then f d else pos 0) +ℤ sum_over p f ds

-- Twice the signed area of the walk along the face of d: the sum over the darts of the face.
unfoldable pub face_sum : Lists → List Point → Dart → ℤ
face_sum lists points d =
    sum_over (λ e. same_class (face_classes lists) (dart_number lists d) (dart_number lists e)) (swept points) (darts lists)

-- each face but the base's has a positive area
abbrev pub AreOthersPositive : Lists → List Point → Dart → Type 0
AreOthersPositive lists points base =
    (v u : ℕ) → HasDart lists v u → ¬ SameFace lists base (v, u) → pos 0 <ℤ face_sum lists points (v, u)

-- the base's face is the outer one, where the map is connected
abbrev pub HasOuterFace : Lists → List Point → Dart → Type 0
HasOuterFace lists points base = component_count lists ≡ 1 → AreOthersPositive lists points base
