-- Edges and darts as a round of a vertex meets them, entry by entry.
use Rattle.std.specs.Prelude.{ℕ, ◌+◌, ◌<◌, ◌≡◌, ◌≢◌, ◌⊎◌, Bool, true, false, List, slice_index, Option, Some, None, unwrap_or, ⊤}
use Rattle.map_lists.specs.Lists.{Lists}
use Rattle.map_lists.specs.declared.ids.VertexId.{VertexId}
use Rattle.map_theory.specs.Maps.{Dart, HasDart, list_of, follows, place_of}
use Rattle.half_edges.specs.Map.{Map, dart_at}

-- an edge, by its lesser end and then its greater
abbrev pub HasEdge : Lists → ℕ → ℕ → Type 0
HasEdge lists a b = (a < b) × HasDart lists a b

-- pairs are in order by the first number, and then by the second
abbrev pub ComesBefore : ℕ → ℕ → ℕ → ℕ → Type 0
ComesBefore a b c d = (a < c) ⊎ ((a ≡ c) × (b < d))

-- the dart of a live id
abbrev pub dart_of : Map → ℕ → Dart
dart_of map d = unwrap_or (dart_at map d) (0, 0)

-- what relates two vertices relates the tail and the head of a live id's dart
abbrev pub HoldsAt : Map → (ℕ → ℕ → Type 0) → ℕ → Type 0
HoldsAt map P d = P (dart_of map d).0 (dart_of map d).1

-- e is the dart from v to the entry after u, which stands behind u in the list
pub record IsLaterDart (map : Map) (v u e : ℕ) : Type 0 where
  pub dart : dart_at map e ≡ Some (v, follows map.lists v u)
  pub place : place_of (follows map.lists v u) (list_of map.lists v) ≡ place_of u (list_of map.lists v) + 1

-- a vertex is below the least one so far, if there is one
abbrev pub IsBelow : ℕ → Option VertexId → Type 0
IsBelow v None = ⊤
IsBelow v (Some u) = v < u.0

-- the least of the first k entries of a list that have a property, where the lesser ones lack it
abbrev pub IsLeastOf : (has lacks : ℕ → Type 0) → List ℕ → ℕ → Option VertexId → Type 0
IsLeastOf has lacks us k None = (i : ℕ) → i < k → lacks (slice_index us i)
IsLeastOf has lacks us k (Some x) = has x.0 × ((i : ℕ) → i < k → slice_index us i < x.0 → lacks (slice_index us i))

-- of the first k entries of a list just one has a property, where the others lack it; or none has it
abbrev pub IsOneOf : (has lacks : ℕ → Type 0) → List ℕ → ℕ → Bool → Type 0
IsOneOf has lacks us k true = (i : ℕ) × (i < k) × has (slice_index us i) × ((j : ℕ) → j < k → j ≢ i → lacks (slice_index us j))
IsOneOf has lacks us k false = (i : ℕ) → i < k → lacks (slice_index us i)

-- just one entry of v's list has a property
pub record GoesOnce (lists : Lists) (v : ℕ) (P : ℕ → Type 0) : Type 0 where
  pub some : (u : ℕ) × HasDart lists v u × P u
  pub one : (u w : ℕ) → HasDart lists v u → HasDart lists v w → P u → P w → u ≡ w
