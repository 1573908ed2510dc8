-- Marks that are turned round along walks.
use Rattle.std.specs.Prelude.{ℕ, ◌≡◌, Bool, List, [], ◌∷◌, Some}
use Rattle.map_theory.specs.Maps.{Dart, follows}
use Rattle.half_edges.specs.Map.{Map, IsLive, dart_at}
use Rattle.euler_faces.specs.Numbers.{mark_at}
use Rattle.vertex_rounds.specs.Rounds.{dart_of}
use Rattle.convex_counts.specs.declared.face_woods.axis.Axis.{Axis}
use Rattle.convex_counts.specs.declared.face_woods.axis.Axis.TheVariants.{One, Two, Three}
use Rattle.convex_counts.specs.Axes.{next, previous}
use Rattle.convex_laws.specs.Walks.{flipped, is_odd_on}
use Rattle.convex_laws.specs.Regions.{IsAxisWay, IsOuterWay, IsRegionWalk}

-- the id of each dart whose edge counts has a mark
abbrev pub HasMarks : Map → (ℕ → ℕ → Bool) → List Bool → Type 0
HasMarks map counts marked = (d x y : ℕ) → dart_at map d ≡ Some (x, y) → mark_at marked d ≡ counts x y

-- the marks of the edges that a walk passes an odd number of times are turned round, and no others
abbrev pub Passes : Map → List Dart → List Bool → List Bool → Type 0
Passes map walk old new = (d x y : ℕ) → dart_at map d ≡ Some (x, y) → mark_at new d ≡ flipped (is_odd_on walk x y) (mark_at old d)

-- the edge of one dart is passed
abbrev pub PassesDart : Map → ℕ → List Bool → List Bool → Type 0
PassesDart map d old new = (x y : ℕ) → dart_at map d ≡ Some (x, y) → Passes map ((x, y) ∷ []) old new

-- a way from v along an axis to w is passed
pub record PassesAxis (map : Map) (root : Axis → ℕ) (out : Axis → ℕ → ℕ) (c : Axis) (v w : ℕ) (old new : List Bool) : Type 0 where
  pub way : List Dart
  pub is_way : IsAxisWay map.lists root out c v w way
  pub passes : Passes map way old new

-- the dart of the one id goes on to that of the base along its face
pub record IsOuterCorner (map : Map) (base before : ℕ) : Type 0 where
  pub base_live : IsLive map base
  pub before_live : IsLive map before
  pub meets : (dart_of map before).1 ≡ (dart_of map base).0
  pub step : follows map.lists (dart_of map base).0 (dart_of map before).0 ≡ (dart_of map base).1

-- a way along the face of the base is passed
pub record PassesOuterWay (map : Map) (base avoided v w : ℕ) (old new : List Bool) : Type 0 where
  pub way : List Dart
  pub is_way : IsOuterWay map.lists (dart_of map base) avoided v w way
  pub passes : Passes map way old new

-- from the head of the base to the tail of the dart before
abbrev pub PassesRest : Map → ℕ → ℕ → List Bool → List Bool → Type 0
PassesRest map base before old new = PassesOuterWay map base (dart_of map base).0 (dart_of map base).1 (dart_of map before).0 old new

-- the root of each axis: the head of the base, its tail, and the tail of the dart before it
abbrev pub corner : Map → ℕ → ℕ → Axis → ℕ
corner map base before One = (dart_of map base).1
corner map base before Two = (dart_of map base).0
corner map base before Three = (dart_of map before).0

-- from the root of the axis before to that of the next one
abbrev pub PassesOuter : Map → ℕ → ℕ → Axis → List Bool → List Bool → Type 0
PassesOuter map base before c old new = PassesOuterWay map base (corner map base before c) (corner map base before (previous c)) (corner map base before (next c)) old new

-- the marks are those of the closed path of a region
pub record MarksRegion (map : Map) (base : Dart) (root : Axis → ℕ) (out : Axis → ℕ → ℕ) (c : Axis) (v : ℕ) (marked : List Bool) : Type 0 where
  pub walk : List Dart
  pub closed : IsRegionWalk map.lists base root out c v walk
  pub marks : HasMarks map (is_odd_on walk) marked
