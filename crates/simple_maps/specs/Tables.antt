-- The tables of a simple map.
use Rattle.std.specs.Prelude.{ℕ, ◌+◌, ◌<◌, ◌≤◌, ◌≡◌, List, length, slice_get, slice_index, slice_index_or, Some}
use Rattle.map_lists.specs.Lists.{Lists}
use Rattle.map_theory.specs.Maps.{Dart, IsSimpleMap, twin_dart, darts, darts_before}

-- for each vertex up to n, how many darts stand before its own
pub record StartsTo (lists : Lists) (starts : List ℕ) (n : ℕ) : Type 0 where
  pub count : length starts ≡ n + 1
  pub at : (v : ℕ) → v ≤ n → slice_index starts v ≡ darts_before lists v

-- for each of the first n darts the number of its twin
pub record AreTwins (ends : List Dart) (twins : List ℕ) (n : ℕ) : Type 0 where
  pub count : length twins ≡ n
  pub at : (d : ℕ) → d < n → slice_get ends (slice_index twins d) ≡ Some (twin_dart (slice_index_or ends d (0, 0)))

-- the tables of a map with few vertices
pub record AreTables (lists : Lists) (starts : List ℕ) (ends : List Dart) (twins : List ℕ) : Type 0 where
  pub simple : IsSimpleMap lists
  pub few_vertices : length lists < 4096
  pub starts_are : StartsTo lists starts (length lists)
  pub ends_are : ends ≡ darts lists
  pub twins_are : AreTwins ends twins (length ends)

-- for each dart of a map, by its number, the vertex that it leaves and the number of its twin
pub record AreSlots (lists : Lists) (tails twins : List ℕ) : Type 0 where
  pub simple : IsSimpleMap lists
  pub tails_are : (d : ℕ) → d < length (darts lists) → slice_index tails d ≡ (slice_index_or (darts lists) d (0, 0)).0
  pub twins_are : AreTwins (darts lists) twins (length (darts lists))
