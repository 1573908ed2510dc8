-- The darts of a half-edge map by their numbers, and marks on ids as marks on numbers.
use Rattle.std.specs.Prelude.{ℕ, suc, Bool, false, List, [], ◌∷◌, if◌then◌else◌, slice_index_or, Option, Some, None, unwrap_or}
use Rattle.map_theory.specs.Maps.{Dart, darts, dart_number, same_dart}
use Rattle.half_edges.specs.Map.{Map, dart_at}

-- the number of the dart of an id
abbrev pub number_at : Map → ℕ → ℕ
number_at map d = dart_number map.lists (unwrap_or (dart_at map d) (0, 0))

abbrev pub is_dart : Dart → Option Dart → Bool
is_dart x None = false
is_dart x (Some d) = same_dart d x

-- the place of the first slot that holds the dart
abbrev pub slot_of : Dart → List (Option Dart) → ℕ
slot_of x [] = 0
slot_of x (o ∷ os) = if is_dart x o then 0 else suc (slot_of x os)

-- the id of the dart with number i
unfoldable pub id_of : Map → ℕ → ℕ
id_of map i = slot_of (slice_index_or (darts map.lists) i (0, 0)) map.ids

abbrev pub mark_at : List Bool → ℕ → Bool
mark_at marked d = slice_index_or marked d false

-- the mark of the dart with number i, where ids are marked
abbrev pub mark_of : Map → List Bool → ℕ → Bool
mark_of map marked i = mark_at marked (id_of map i)
