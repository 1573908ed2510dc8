-- What contracts see of a half-edge map: its rotation lists, the room for more edges, and which id is which dart.
use Rattle.std.specs.Prelude.{ℕ, ◌+◌, ◌*◌, ◌<◌, ◌≤◌, ◌≡◌, List, length, slice_index, slice_index_or, Option, Some, None, IsSome}
use Rattle.map_lists.specs.Lists.{Lists}
use Rattle.map_theory.specs.Maps.{Dart, IsSimpleMap, HasDart, list_of, follows, edge_count}

-- What holds of every half-edge map, by its lists, the room for more edges and the dart of each id.
pub record AreMapFacts (lists : Lists) (spare : ℕ) (ids : List (Option Dart)) : Type 0 where
  pub simple : IsSimpleMap lists
  pub few_vertices : length lists < 4096
  -- an id has a dart of the map
  pub is_dart : (d v u : ℕ) → slice_index_or ids d None ≡ Some (v, u) → HasDart lists v u
  -- each dart has an id, and no other
  pub has_id : (v u : ℕ) → HasDart lists v u → (d : ℕ) × (slice_index_or ids d None ≡ Some (v, u))
  pub one_id : (d e v u : ℕ) → slice_index_or ids d None ≡ Some (v, u) → slice_index_or ids e None ≡ Some (v, u) → d ≡ e
  pub few_ids : length ids ≤ 2 * (edge_count lists + spare)
  pub few_edges : edge_count lists + spare ≤ 16777216

-- a half-edge map, as contracts see it
pub record Map : Type 0 where
  -- for each vertex its neighbours, clockwise
  pub lists : Lists
  -- how many edges can be added with no more memory
  pub spare : ℕ
  -- for each number of an id its dart, or None where no dart has that id
  pub ids : List (Option Dart)
  -- what holds of every map
  pub known : AreMapFacts lists spare ids

-- the dart of an id, if it is live
abbrev pub dart_at : Map → ℕ → Option Dart
dart_at map d = slice_index_or map.ids d None

-- the id is that of a dart
abbrev pub IsLive : Map → ℕ → Type 0
IsLive map d = IsSome (dart_at map d)

-- the clockwise next dart from the same vertex
abbrev pub next_dart : Lists → Dart → Dart
next_dart lists d = (d.0, follows lists d.0 d.1)

-- the dart of v's first entry
abbrev pub first_dart : Lists → ℕ → Dart
first_dart lists v = (v, slice_index (list_of lists v) 0)

-- all ids are below this: two for each edge that the map has or has room for
abbrev pub id_bound : Map → ℕ
id_bound map = 2 * (edge_count map.lists + map.spare)

-- What holds of every half-edge map.
abbrev pub IsHalfMap : Map → Type 0
IsHalfMap map = AreMapFacts map.lists map.spare map.ids
