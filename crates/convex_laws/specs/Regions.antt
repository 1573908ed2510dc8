-- Regions of a convex wood (Felsner 2001): the closed path of a vertex for an axis, and the faces inside it.
use Rattle.std.specs.Prelude.{ℕ, ◌≡◌, ◌≢◌, List, [], ◌∷◌, ◌++◌}
use Rattle.map_lists.specs.Lists.{Lists}
use Rattle.map_theory.specs.Maps.{Dart, HasDart}
use Rattle.map_theory.specs.Paths.{SameFace}
use Rattle.convex_counts.specs.declared.face_woods.axis.Axis.{Axis}
use Rattle.convex_counts.specs.Axes.{next, previous}
use Rattle.convex_laws.specs.ConvexWoods.{IsOut}
use Rattle.convex_laws.specs.Walks.{turned}
use Rattle.convex_laws.specs.Inside.{IsInsideCount}

-- the darts lead from v along an axis to w
abbrev pub IsAxisWay : Lists → (Axis → ℕ) → (Axis → ℕ → ℕ) → Axis → ℕ → ℕ → List Dart → Type 0
IsAxisWay lists root out c v w [] = v ≡ w
IsAxisWay lists root out c v w (d ∷ ds) = (d.0 ≡ v) × IsOut lists root out c v d.1 × IsAxisWay lists root out c d.1 w ds

-- the darts go from v along the face of the base to w, and none leaves the vertex that is avoided
abbrev pub IsOuterWay : Lists → Dart → ℕ → ℕ → ℕ → List Dart → Type 0
IsOuterWay lists base avoided v w [] = v ≡ w
IsOuterWay lists base avoided v w (d ∷ ds) = (d.0 ≡ v) × HasDart lists d.0 d.1 × SameFace lists base d × (d.0 ≢ avoided) × IsOuterWay lists base avoided d.1 w ds

-- The closed path of v for axis c: along the next axis to its root; over the outer face to the root of the axis before, without passing the root of c; and back along the axis before. The outer face is walked from the root of the axis before to that of the next, so this part is turned, as is the way back.
pub record IsRegionWalk (lists : Lists) (base : Dart) (root : Axis → ℕ) (out : Axis → ℕ → ℕ) (c : Axis) (v : ℕ) (walk : List Dart) : Type 0 where
  pub ahead : List Dart
  pub outer : List Dart
  pub back : List Dart
  pub along_next : IsAxisWay lists root out (next c) v (root (next c)) ahead
  pub along_outer : IsOuterWay lists base (root c) (root (previous c)) (root (next c)) outer
  pub along_previous : IsAxisWay lists root out (previous c) v (root (previous c)) back
  pub is : walk ≡ ahead ++ (turned outer ++ turned back)

-- the region of v for axis c has k faces
pub record IsFaceRegion (lists : Lists) (base : Dart) (root : Axis → ℕ) (out : Axis → ℕ → ℕ) (c : Axis) (v k : ℕ) : Type 0 where
  pub walk : List Dart
  pub closed : IsRegionWalk lists base root out c v walk
  pub count : IsInsideCount lists base walk k
