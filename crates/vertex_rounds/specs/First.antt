-- The first dart that passes a test, by its tail and then by its head. What a test says of the dart of an id is a relation.
use Rattle.std.specs.Prelude.{ℕ, ◌<◌, ◌≤◌, ◌≡◌, ◌≢◌, ◌⊎◌, length, Bool, true, false, Option, Some, None}
use Rattle.map_lists.specs.declared.ids.VertexId.{VertexId}
use Rattle.map_lists.specs.declared.ids.DartId.{DartId}
use Rattle.map_theory.specs.Maps.{list_of}
use Rattle.half_edges.specs.Map.{Map, dart_at}
use Rattle.vertex_rounds.specs.Rounds.{ComesBefore}

-- the test passes at the dart from v to u
abbrev pub Passes : Map → (DartId → Bool → Type 0) → ℕ → ℕ → Type 0
Passes map says v u = (d : DartId) × (dart_at map d.0 ≡ Some (v, u)) × says d true

-- it fails at each dart from v to u
abbrev pub Fails : Map → (DartId → Bool → Type 0) → ℕ → ℕ → Type 0
Fails map says v u = (d : DartId) → dart_at map d.0 ≡ Some (v, u) → says d false

-- the dart from v to u is the first, of those with a tail from `from` on
pub record IsFirst (map : Map) (says : DartId → Bool → Type 0) (from v u : ℕ) : Type 0 where
  pub late : from ≤ v
  pub passes : Passes map says v u
  pub before : (w t : ℕ) → from ≤ w → ComesBefore w t v u → Fails map says w t

-- the first one, or that there is none
abbrev pub IsFirstOrNone : Map → (DartId → Bool → Type 0) → ℕ → Option (VertexId × VertexId) → Type 0
IsFirstOrNone map says from None = (v u : ℕ) → from ≤ v → Fails map says v u
IsFirstOrNone map says from (Some dart) = IsFirst map says from dart.0.0 dart.1.0

-- `found` is the first dart, of those with a tail from `from` on, at which the test passes, or None where there is none
pub record FindsFirst (map : Map) (says : DartId → Bool → Type 0) (from : ℕ) (found : Option (VertexId × VertexId)) : Type 0 where
  pub first : IsFirstOrNone map says from found

-- the least u to which the dart from v passes, or that none passes
abbrev pub IsLeastOrNone : Map → (DartId → Bool → Type 0) → ℕ → Option VertexId → Type 0
IsLeastOrNone map says v None = (u : ℕ) → Fails map says v u
IsLeastOrNone map says v (Some u) = Passes map says v u.0 × ((t : ℕ) → t < u.0 → Fails map says v t)

-- `found` is the least head of a dart from v at which the test passes, or None where there is none
pub record FindsLeast (map : Map) (says : DartId → Bool → Type 0) (v : ℕ) (found : Option VertexId) : Type 0 where
  pub least : IsLeastOrNone map says v found

-- true: the test passes at exactly one dart from v; false: at none, or at two or more
abbrev pub PassesOnce : Map → (DartId → Bool → Type 0) → ℕ → Bool → Type 0
PassesOnce map says v true = (u : ℕ) × Passes map says v u × ((w : ℕ) → w ≢ u → Fails map says v w)
PassesOnce map says v false = ((u : ℕ) → Fails map says v u) ⊎ ((u : ℕ) × (w : ℕ) × (u ≢ w) × Passes map says v u × Passes map says v w)

-- a round of the darts from v answers whether the test passes at exactly one of them
pub record IsPassedOnce (map : Map) (says : DartId → Bool → Type 0) (v : ℕ) (result : Bool) : Type 0 where
  pub passed : PassesOnce map says v result

-- like `PassesOnce`, but true says nothing where v has fewer than two neighbours, and false says that it has at least two
abbrev pub PassesOnceOfTwo : Map → (DartId → Bool → Type 0) → ℕ → Bool → Type 0
PassesOnceOfTwo map says v true = 2 ≤ length (list_of map.lists v) → PassesOnce map says v true
PassesOnceOfTwo map says v false = (2 ≤ length (list_of map.lists v)) × PassesOnce map says v false

-- a round of the darts from v answers `PassesOnceOfTwo`
pub record TurnsOnce (map : Map) (says : DartId → Bool → Type 0) (v : ℕ) (result : Bool) : Type 0 where
  pub once : PassesOnceOfTwo map says v result
