-- Drawings by the regions of convex woods (Felsner 2001): the coordinates of a vertex are the numbers of faces in its regions.
use Rattle.std.specs.Prelude.{ℕ, ◌-◌, ◌<◌, ◌≡◌, List, length, pos, ◌+ℤ◌}
use Rattle.map_lists.specs.Lists.{Lists}
use Rattle.map_theory.specs.Maps.{Dart, HasDart, face_count}
use Rattle.pg_plane.specs.declared.grid_points.Point.{Point}
use Rattle.plane_drawings.specs.Drawing.{place}
use Rattle.convex_counts.specs.declared.face_woods.axis.Axis.{Axis}
use Rattle.convex_counts.specs.declared.face_woods.axis.Axis.TheVariants.{One, Two, Three}
use Rattle.convex_laws.specs.ConvexWoods.{IsOut, IsConvexWood}
use Rattle.convex_laws.specs.Regions.{IsFaceRegion}
use Rattle.convex_laws.specs.Signs.{IsRisingBy}

-- k is the coordinate of a point for an axis, where all three have the sum m
abbrev pub IsCoordinate : ℕ → Axis → Point → ℕ → Type 0
IsCoordinate m One p k = p.x ≡ pos k
IsCoordinate m Two p k = p.y ≡ pos k
IsCoordinate m Three p k = (p.x +ℤ p.y) +ℤ pos k ≡ pos m

-- The darts are a convex wood: those along which the coordinate of one axis alone rises. The coordinate of each vertex for each axis is the number of faces in its region; the outer face is in none.
pub record IsRegionDrawing (lists : Lists) (base : Dart) (root : Axis → ℕ) (out : Axis → ℕ → ℕ) (points : List Point) : Type 0 where
  pub wood : IsConvexWood lists base root out
  pub region : (c : Axis) (v : ℕ) → v < length lists → (k : ℕ) × IsFaceRegion lists base root out c v k × IsCoordinate (face_count lists - 1) c (place points v) k
  pub rising : (c : Axis) (v u : ℕ) → HasDart lists v u → IsRisingBy c (place points v) (place points u) → IsOut lists root out c v u
