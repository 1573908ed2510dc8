-- The sums over faces, as a table over the walks of the faces, and the darts whose face has none that is positive.
use Rattle.std.specs.Prelude.{ℕ, ◌<◌, ◌≡◌, Bool, true, List, length, take, slice_index_or, ℤ, pos, ◌≤ℤ◌}
use Rattle.classes.specs.Classes.{same_class}
use Rattle.map_theory.specs.Maps.{Dart, HasDart, darts, dart_number, face_classes}
use Rattle.map_theory.specs.Paths.{SameFace}
use Rattle.half_edges.specs.Map.{Map}
use Rattle.euler_faces.specs.FaceWalks.{walk_at, first_number}
use Rattle.pg_plane.specs.declared.grid_points.Point.{Point}
use Rattle.vertex_rounds.specs.Rounds.{dart_of}
use Rattle.drawings.specs.OuterFaces.{swept, sum_over}

-- a dart lies on the face of a walk
abbrev pub is_on_walk : Map → List ℕ → Dart → Bool
is_on_walk map walk d = same_class (face_classes map.lists) (first_number map walk) (dart_number map.lists d)

-- for each walk the sum over those of the first k darts that lie on its face
pub record AreSumsBelow (map : Map) (points : List Point) (walks : List (List ℕ)) (k : ℕ) (sums : List ℤ) : Type 0 where
  pub count : length sums ≡ length walks
  pub each : (f : ℕ) → f < length walks → slice_index_or sums f (pos 0) ≡ sum_over (is_on_walk map (walk_at walks f)) (swept points) (take k (darts map.lists))

-- the dart from v to u lies on another face than the base's, whose sum is not positive
pub record HasLowSum (map : Map) (walks : List (List ℕ)) (sums : List ℤ) (base v u : ℕ) : Type 0 where
  pub dart : HasDart map.lists v u
  pub other : ¬ SameFace map.lists (dart_of map base) (v, u)
  pub face : ℕ
  pub within : face < length walks
  pub on : is_on_walk map (walk_at walks face) (v, u) ≡ true
  pub sum : slice_index_or sums face (pos 0) ≤ℤ pos 0
