-- Convex drawings over a base dart: no face but the base's bends inwards, and that one is a triangle, with flat angles.
use Rattle.std.specs.Prelude.{ℕ, ◌≡◌, ◌≢◌, List, pos, ◌≤ℤ◌, ◌<ℤ◌}
use Rattle.map_lists.specs.Lists.{Lists}
use Rattle.map_theory.specs.Maps.{Dart, HasDart, follows}
use Rattle.map_theory.specs.Paths.{SameFace}
use Rattle.pg_plane.specs.declared.grid_points.Point.{Point}
use Rattle.pg_plane.specs.Geometry.{area}
use Rattle.plane_drawings.specs.Drawing.{place}
use Rattle.drawings.specs.Corners.{IsOnTriangle}

-- the walk of another face than the base's goes from a over b to c, and turns to the right
pub record IsBent (lists : Lists) (points : List Point) (base : Dart) (a b c : ℕ) : Type 0 where
  pub dart : HasDart lists a b
  pub third : follows lists b a ≡ c
  pub other : ¬ SameFace lists base (a, b)
  pub turn : area (place points a) (place points b) (place points c) <ℤ pos 0

-- v stands on the face of the base
abbrev pub IsOnFace : Lists → Dart → ℕ → Type 0
IsOnFace lists base v = (u : ℕ) × HasDart lists v u × SameFace lists base (v, u)

-- Three vertices of the base's face have an area other than 0, and each vertex of the face is on a segment between them.
pub record AreOuterCorners (lists : Lists) (points : List Point) (base : Dart) (a b c : ℕ) : Type 0 where
  pub first : IsOnFace lists base a
  pub second : IsOnFace lists base b
  pub third : IsOnFace lists base c
  pub apart : area (place points a) (place points b) (place points c) ≢ pos 0
  pub all : (v : ℕ) → IsOnFace lists base v → IsOnTriangle (place points v) (place points a) (place points b) (place points c)

-- the base's face has three such corners
abbrev pub HasOuterCorners : Lists → List Point → Dart → Type 0
HasOuterCorners lists points base = (a : ℕ) × (b : ℕ) × (c : ℕ) × AreOuterCorners lists points base a b c

-- A convex drawing: no face but the base's turns to the right at a vertex, and the base's face is a triangle on whose sides all its vertices stand.
pub record IsConvex (lists : Lists) (points : List Point) (base : Dart) : Type 0 where
  pub inner : (a b : ℕ) → HasDart lists a b → ¬ SameFace lists base (a, b) → pos 0 ≤ℤ area (place points a) (place points b) (place points (follows lists b a))
  pub outer : HasOuterCorners lists points base
