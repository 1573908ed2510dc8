-- A record as a triangulation with a canonical order.
use Rattle.std.specs.Prelude.{ℕ, ◌<◌, ◌≡◌, Bool, if◌then◌else◌, [], length, slice_index, MatchOption}
use Rattle.map_lists.specs.Lists.{Lists}
use Rattle.map_theory.specs.Maps.{HasDart, IsSimpleMap, list_of}
use Rattle.plane_laws.specs.Triangulations.{IsTriangulation}
use Rattle.plane_laws.specs.MapEditsCompleted.{IsExtended}
use Rattle.canon_order.specs.Orders.{IsCanonicalOrder, IsRankOf, vertices_of}
use Rattle.canon_order.specs.declared.vertex_order.Order.{Order}
use Rattle.grid_figures.specs.declared.drawing_orders.completed_records.DrawingOrder.{DrawingOrder}

-- The base for the map of `lists` in its completion `more` goes from vertex 0 to the first entry of its list there, or to its least neighbour in the completion where the list is empty.
pub record IsBaseTo (lists more : Lists) (to : ℕ) : Type 0 where
  pub dart : HasDart more 0 to
  pub first : 0 < length (list_of lists 0) → to ≡ slice_index (list_of lists 0) 0
  pub least : list_of lists 0 ≡ [] → (u : ℕ) → u < to → ¬ HasDart more 0 u

-- A completion of the simple map of these lists, with a canonical order of it for such a base.
pub record IsDrawingOrder (lists : Lists) (found : DrawingOrder) : Type 0 where
  pub simple : IsSimpleMap lists
  pub triangulation : IsTriangulation found.tri.lists
  pub listed : MatchOption found.made (lists ≡ found.tri.lists) (λ made. made ≡ found.tri.lists)
  pub extended : IsExtended lists found.tri.lists
  pub to : ℕ
  pub base : IsBaseTo lists found.tri.lists to
  pub canonical : IsCanonicalOrder found.tri.lists (0, to) (vertices_of found.order)
  pub rank : IsRankOf found.order.rank (vertices_of found.order)

-- the lists `made` for a completion, if edges were put in; else the map's own lists
abbrev pub lists_by : Bool → Lists → Lists → Lists
lists_by made lists own = if made then lists else own

-- The order is a canonical one of the completion `more` of the simple map of these lists, for a base of it.
pub record IsOrdered (lists more : Lists) (order : Order) : Type 0 where
  pub simple : IsSimpleMap lists
  pub triangulation : IsTriangulation more
  pub extended : IsExtended lists more
  pub to : ℕ
  pub base : IsBaseTo lists more to
  pub canonical : IsCanonicalOrder more (0, to) (vertices_of order)
