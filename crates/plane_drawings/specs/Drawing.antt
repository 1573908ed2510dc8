-- A drawing of a map: a point for each vertex, and each edge a straight segment.
use Rattle.std.specs.Prelude.{ℕ, ◌<◌, ◌≤◌, ◌≡◌, ◌≢◌, List, length, slice_index_or, ℤ, pos, ◌≤ℤ◌, ◌<ℤ◌}
use Rattle.map_lists.specs.Lists.{Lists}
use Rattle.map_theory.specs.Maps.{Dart, HasDart, list_of, follows}
use Rattle.map_theory.specs.Paths.{SameFace}
use Rattle.pg_plane.specs.declared.grid_points.Point.{Point}
use Rattle.pg_plane.specs.Range.{IsInRange}
use Rattle.pg_plane.specs.Geometry.{vector, area, IsOnSegment, DoCross, IsClockBefore}

-- the place of a vertex
abbrev pub place : List Point → ℕ → Point
place points v = slice_index_or points v (record { x = pos 0; y = pos 0 })

-- a point for each vertex, within the range of coordinates
pub record HasPlaces (lists : Lists) (points : List Point) : Type 0 where
  pub count : length points ≡ length lists
  pub in_range : (v : ℕ) → v < length points → IsInRange (place points v)

-- a point of the grid from (0, 0) to (width, height)
pub record IsInGrid (width height : ℤ) (p : Point) : Type 0 where
  pub left : pos 0 ≤ℤ p.x
  pub right : p.x ≤ℤ width
  pub bottom : pos 0 ≤ℤ p.y
  pub top : p.y ≤ℤ height

-- Vertices stand apart, none stands on an edge of which it is no end, and no two edges without a common end cross.
pub record IsPlaneDrawing (lists : Lists) (points : List Point) : Type 0 where
  pub apart : (u v : ℕ) → u < length lists → v < length lists → u ≢ v → place points u ≢ place points v
  pub off_edges : (u v w : ℕ) → HasDart lists u v → w < length lists → w ≢ u → w ≢ v → ¬ IsOnSegment (place points w) (place points u) (place points v)
  pub no_crossing : (a b c d : ℕ) → HasDart lists a b → HasDart lists c d → c ≢ a → c ≢ b → d ≢ a → d ≢ b → ¬ DoCross (place points a) (place points b) (place points c) (place points d)

-- the direction from v to the entry after u in its list does not come strictly after that to u, clockwise from west
abbrev pub IsBreak : Lists → List Point → ℕ → ℕ → Type 0
IsBreak lists points v u =
    ¬ IsClockBefore (vector (place points v) (place points u)) (vector (place points v) (place points (follows lists v u)))

-- The directions from v to the entries of its list, taken cyclically, have just one such break: they go clockwise once round.
pub record GoesOnceRound (lists : Lists) (points : List Point) (v : ℕ) : Type 0 where
  pub some : (u : ℕ) × HasDart lists v u × IsBreak lists points v u
  pub one : (u w : ℕ) → HasDart lists v u → HasDart lists v w → IsBreak lists points v u → IsBreak lists points v w → u ≡ w

-- the drawing keeps the rotations
abbrev pub KeepsRotations : Lists → List Point → Type 0
KeepsRotations lists points = (v : ℕ) → v < length lists → 2 ≤ length (list_of lists v) → GoesOnceRound lists points v

-- The three points of each face have a positive area, but those of the base's face a negative one.
pub record IsCounterclockwise (lists : Lists) (points : List Point) (base : Dart) : Type 0 where
  pub inner : (u v : ℕ) → HasDart lists u v → ¬ SameFace lists base (u, v) → pos 0 <ℤ area (place points u) (place points v) (place points (follows lists v u))
  pub outer : area (place points base.0) (place points base.1) (place points (follows lists base.1 base.0)) <ℤ pos 0
