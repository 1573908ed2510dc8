-- Drawings of maps by the counts of a run.
use Rattle.std.specs.Prelude.{ℕ, suc, ◌<◌, ◌≡◌, ◌≢◌, ◌⊎◌, List, length, pos, ◌≤ℤ◌, ◌<ℤ◌}
use Rattle.map_lists.specs.Lists.{Lists}
use Rattle.map_theory.specs.Maps.{Dart, HasDart, IsSimpleMap, follows}
use Rattle.pg_plane.specs.declared.grid_points.Point.{Point}
use Rattle.pg_plane.specs.Geometry.{area, IsOnSegment}
use Rattle.plane_drawings.specs.Drawing.{place, IsInGrid, IsPlaneDrawing, KeepsRotations}
use Rattle.contour_runs.specs.Wood.{point_of}
use Rattle.contour_runs.specs.FaceRuns.{Step, stage_after, faces_made}
use Rattle.convex_counts.specs.Counts.{face_counts}
use Rattle.convex_counts.specs.FacePointsLaws.{IsWholeRun}
use Rattle.convex_counts.specs.Turns.{well_turned, IsTouchedRun}
use Rattle.convex_laws.specs.FaceDrawings.{IsRunDart}

-- A simple map without isolated vertices is that of a run: each vertex has a rank, which is its number in the run, and each dart is on the face of a number, of the run or the outer one, as are the darts after it along its face.
pub record IsRunMap (lists : Lists) (base : Dart) (steps : ℕ → Step) (n : ℕ) (rank : ℕ → ℕ) (face : ℕ → ℕ → ℕ) : Type 0 where
  pub simple : IsSimpleMap lists
  pub joined : (v : ℕ) → v < length lists → (u : ℕ) × HasDart lists v u
  pub dart : HasDart lists base.0 base.1
  pub ranks : (u v : ℕ) → u < length lists → v < length lists → rank u ≡ rank v → u ≡ v
  pub placed : (v : ℕ) → v < length lists → rank v < (stage_after steps n).count
  pub on_face : (x y : ℕ) → HasDart lists x y → IsRunDart steps n (rank x) (rank y) (face x y)
  pub faces : (x y : ℕ) → HasDart lists x y → face y (follows lists y x) ≡ face x y
  pub first : rank base.1 ≡ 0
  pub second : rank base.0 ≡ 1
  pub outer : face base.0 base.1 ≡ faces_made steps n

-- each vertex stands at the point of its rank
abbrev pub AreCountPoints : Lists → (ℕ → Step) → ℕ → (ℕ → ℕ) → List Point → Type 0
AreCountPoints lists steps n rank points = (v : ℕ) → v < length lists → place points v ≡ point_of (face_counts steps n) (rank v)

-- a point by two naturals
abbrev pub grid_point : ℕ → ℕ → Point
grid_point x y = record { x = pos x; y = pos y }

-- A plane drawing that keeps the rotations, in the grid m by m for m inner faces. The base stands at (m, 0) and (0, m), the last vertex at (0, 0). No inner face bends inwards; the outer one is a triangle with flat angles, whose corners are the base and the last vertex.
pub record IsConvexDrawing (lists : Lists) (base : Dart) (steps : ℕ → Step) (n : ℕ) (rank : ℕ → ℕ) (face : ℕ → ℕ → ℕ) (points : List Point) : Type 0 where
  pub plane : IsPlaneDrawing lists points
  pub rotations : KeepsRotations lists points
  pub grid : (v : ℕ) → v < length lists → IsInGrid (pos (faces_made steps n)) (pos (faces_made steps n)) (place points v)
  pub first : place points base.1 ≡ grid_point (faces_made steps n) 0
  pub second : place points base.0 ≡ grid_point 0 (faces_made steps n)
  pub last : (e : ℕ) → e < length lists → suc (rank e) ≡ (stage_after steps n).count → place points e ≡ grid_point 0 0
  pub inner : (x y : ℕ) → HasDart lists x y → face x y ≢ faces_made steps n → pos 0 ≤ℤ area (place points x) (place points y) (place points (follows lists y x))
  pub corners : (e : ℕ) → e < length lists → suc (rank e) ≡ (stage_after steps n).count → pos 0 <ℤ area (place points base.1) (place points base.0) (place points e)
  pub sides : (x y e : ℕ) → HasDart lists x y → face x y ≡ faces_made steps n → e < length lists → suc (rank e) ≡ (stage_after steps n).count → IsOnSegment (place points x) (place points base.1) (place points e) ⊎ IsOnSegment (place points x) (place points e) (place points base.0)

-- The counts of a whole run are such a drawing of its map.
abbrev pub ConvexRunDraws : Type 0
ConvexRunDraws =
    (lists : Lists) (base : Dart) (steps : ℕ → Step) (n : ℕ) (rank : ℕ → ℕ) (face : ℕ → ℕ → ℕ) (points : List Point) → IsWholeRun steps n → 0 < n → IsRunMap lists base steps n rank face → AreCountPoints lists steps n rank points
    → IsConvexDrawing lists base steps n rank face points

-- The run may be given without its turns, if its vertices are touched in time: then they are read off.
abbrev pub TouchedRunDraws : Type 0
TouchedRunDraws =
    (lists : Lists) (base : Dart) (steps : ℕ → Step) (n : ℕ) (rank : ℕ → ℕ) (face : ℕ → ℕ → ℕ) (points : List Point) → IsTouchedRun steps n → IsRunMap lists base steps n rank face → AreCountPoints lists (well_turned steps) n rank points
    → IsConvexDrawing lists base (well_turned steps) n rank face points
