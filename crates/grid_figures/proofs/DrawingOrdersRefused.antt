-- Answers that wrong bodies would give for a record.
use Rattle.std.proofs.Common.{◌≡◌, ◌∙◌, ℕ, Option, Some, sym, ap, arith}
use Rattle.std.specs.Prelude.{slice_index, unwrap_or}
use Rattle.map_lists.specs.Lists.{Lists}
use Rattle.map_theory.specs.Maps.{Dart}
use Rattle.half_edges.specs.Map.{Map, dart_at}
use Rattle.canon_order.specs.Orders.{vertices_of}
use Rattle.grid_figures.specs.DrawingOrdersBases.{LeadsToLeast}
use Rattle.grid_figures.specs.Orders.{IsDrawingOrder}
use Rattle.grid_figures.specs.declared.drawing_orders.completed_records.DrawingOrder.{DrawingOrder}

-- the base leads from vertex 1, and vertex 0 is not the second of the order
base_at_another_vertex : (lists : Lists) (found : DrawingOrder) → slice_index (vertices_of found.order) 1 ≡ 1 → IsDrawingOrder lists found → ⊥
base_at_another_vertex lists found e d = omega (arith, e, d.canonical.built.second)

-- the base leads to vertex 0
base_the_other_way_round : (map : Map) (id : ℕ) → dart_at map id ≡ Some (1, 0) → LeadsToLeast map id → ⊥
base_the_other_way_round map id e l = omega (arith, ap (λ (dart : Option Dart). (unwrap_or dart (0, 0)).0) (sym e ∙ l.dart))
