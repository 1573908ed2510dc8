-- A search of all that chains of faces come to, from the face of a base.
use Rattle.std.specs.Prelude.{ℕ, ◌+◌, ◌*◌, ◌≡◌, ◌⊎◌, ◌↔◌, Bool, true, false, not, if◌then◌else◌, List, [], ◌∷◌, ◌++◌, length, slice_set, Contains, Some, option_map}
use Rattle.map_lists.specs.declared.ids.DartId.{DartId}
use Rattle.map_theory.specs.Maps.{Dart, twin_dart, face_step}
use Rattle.half_edges.specs.Map.{Map, dart_at}
use Rattle.euler_faces.specs.Numbers.{mark_at}
use Rattle.euler_faces.specs.Search.{unmarked_below}
use Rattle.euler_faces.specs.Chains.{GoesOn, Reaches}
use Rattle.euler_faces.specs.declared.face_chains.FaceSide.{FaceSide}

-- the place of a dart's mark: two for each dart, as a chain comes to its face with an even number or an odd one
abbrev pub place : ℕ → Bool → ℕ
place d odd = 2 * d + (if odd then 1 else 0)

abbrev pub IsMet : List Bool → ℕ → Bool → Type 0
IsMet met d odd = mark_at met (place d odd) ≡ true

-- a test, whose answers are a relation, answers at each dart whether its edge counts
abbrev pub Tells : Map → (DartId → Bool → Type 0) → (ℕ → ℕ → Bool) → Type 0
Tells map says counts = (d : DartId) (answer : Bool) (x y : ℕ) → dart_at map d.0 ≡ Some (x, y) → says d answer → answer ≡ counts x y

-- all that a chain comes to is met, and no more
abbrev pub AreReached : Map → Dart → (ℕ → ℕ → Bool) → List Bool → Type 0
AreReached map base counts met = (d : ℕ) (odd : Bool) (x y : ℕ) → dart_at map d ≡ Some (x, y) → IsMet met d odd ↔ Reaches map.lists counts base x y odd

-- what a search from the dart of an id answers, by a test
abbrev pub MarksReached : Map → (DartId → Bool → Type 0) → ℕ → List Bool → Type 0
MarksReached map says start met = (base : Dart) (counts : ℕ → ℕ → Bool) → dart_at map start ≡ Some base → Tells map says counts → AreReached map base counts met

-- the side was met before, or it is met and put on the stack
pub data Meets (met : List Bool) (sides : List FaceSide) (side : FaceSide) (met' : List Bool) (sides' : List FaceSide) : Type 0 where
  before : IsMet met side.dart.0 side.odd → met' ≡ met → sides' ≡ sides → Meets met sides side met' sides'
  now : mark_at met (place side.dart.0 side.odd) ≡ false → met' ≡ slice_set met (place side.dart.0 side.odd) true → sides' ≡ sides ++ side ∷ [] → Meets met sides side met' sides'

-- how much there is to do: marks to set, twice, and sides on the stack
abbrev pub work : List Bool → List FaceSide → ℕ
work met sides = 2 * unmarked_below met (length met) + length sides

-- the next dart along the face
pub record IsAlong (map : Map) (side other : FaceSide) : Type 0 where
  pub dart : dart_at map other.dart.0 ≡ option_map (face_step map.lists) (dart_at map side.dart.0)
  pub odd : other.odd ≡ side.odd

-- The side on the other side of the edge: the number is odd as before, but where the test passes.
pub record IsAcross (map : Map) (says : DartId → Bool → Type 0) (side other : FaceSide) : Type 0 where
  pub dart : dart_at map other.dart.0 ≡ option_map twin_dart (dart_at map side.dart.0)
  pub turn : Bool
  pub told : says side.dart turn
  pub odd : other.odd ≡ (if turn then not side.odd else side.odd)

-- From a side both others are met, one after the other.
pub record GoesFrom (map : Map) (says : DartId → Bool → Type 0) (side : FaceSide) (met : List Bool) (sides : List FaceSide) (met' : List Bool) (sides' : List FaceSide) : Type 0 where
  pub first : FaceSide
  pub second : FaceSide
  pub along : IsAlong map side first
  pub across : IsAcross map says side second
  pub between : List Bool
  pub waiting : List FaceSide
  pub meets_first : Meets met sides first between waiting
  pub meets_second : Meets between waiting second met' sides'

-- Under way: what is met is reached; and all to which it goes on is met too, but for what waits on the stack, and what is open.
pub record IsChaining (map : Map) (base : Dart) (counts : ℕ → ℕ → Bool) (met : List Bool) (sides : List FaceSide) (open_at : ℕ → Bool → Type 0) : Type 0 where
  pub sound : (d : ℕ) (odd : Bool) (x y : ℕ) → dart_at map d ≡ Some (x, y) → IsMet met d odd → Reaches map.lists counts base x y odd
  pub closed : (d : ℕ) (odd : Bool) (x y : ℕ) → dart_at map d ≡ Some (x, y) → IsMet met d odd
      → ((side : FaceSide) × Contains sides side × (side.dart.0 ≡ d) × (side.odd ≡ odd)) ⊎ (open_at d odd ⊎ ((d' : ℕ) (odd' : Bool) (x' y' : ℕ) → dart_at map d' ≡ Some (x', y') → GoesOn map.lists counts x y odd x' y' odd' → IsMet met d' odd'))
  pub waits : (side : FaceSide) → Contains sides side → IsMet met side.dart.0 side.odd
  pub begun : (d : ℕ) → dart_at map d ≡ Some base → IsMet met d false
