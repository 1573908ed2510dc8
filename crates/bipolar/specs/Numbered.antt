-- Rows that give the dual numbers of an st-order.
use Rattle.std.specs.Prelude.{ℕ, ◌<◌, ◌≡◌, List, Some, slice_index}
use Rattle.map_lists.specs.Lists.{Lists}
use Rattle.map_theory.specs.Maps.{HasDart, IsPlane, component_count, face_count}
use Rattle.half_edges.specs.Map.{Map, dart_at}
use Rattle.graph_search.specs.Arcs.{arcs_of}
use Rattle.st_orders.specs.StOrders.{IsStOrder}
use Rattle.bipolar.specs.DualNumbers.{AreDualNumbers}
use Rattle.bipolar.specs.Columns.{AreRows, in_row, AreColumns}

-- the map is connected and of genus zero, and the ranks are of an st-order for this dart
pub record IsStOf (map : Map) (rank : List ℕ) (st : ℕ) : Type 0 where
  pub plane : IsPlane map.lists
  pub connected : component_count map.lists ≡ 1
  pub order : (s t : ℕ) → dart_at map st ≡ Some (s, t) → (at : List ℕ) × IsStOrder map.lists s t at rank

-- rows whose numbers, in the order of edges, are the dual numbers
pub record GiveDualNumbers (map : Map) (rank : List ℕ) (st : ℕ) (rows : List (List ℕ)) : Type 0 where
  pub sizes : AreRows map.lists rows
  pub both : (u v : ℕ) → HasDart map.lists u v → in_row map.lists rows u v ≡ in_row map.lists rows v u
  pub low : (v i : ℕ) → slice_index (arcs_of rows v) i < face_count map.lists
  pub duals : (columns : List ℕ) → AreColumns map.lists rows columns → (s t : ℕ) → dart_at map st ≡ Some (s, t) → AreDualNumbers map.lists rank s t columns

-- `GiveDualNumbers` by lists alone, for the dart (s, t)
pub record GiveDuals (lists : Lists) (rank : List ℕ) (s t : ℕ) (rows : Lists) : Type 0 where
  pub sizes : AreRows lists rows
  pub both : (u v : ℕ) → HasDart lists u v → in_row lists rows u v ≡ in_row lists rows v u
  pub low : (v i : ℕ) → slice_index (arcs_of rows v) i < face_count lists
  pub duals : (columns : List ℕ) → AreColumns lists rows columns → AreDualNumbers lists rank s t columns
