use Rattle.std.proofs.Common.{ℕ, ◌<◌, Contains, get_or, slice_index}
use Rattle.map_theory.specs.Maps.{Dart}
use Rattle.left_right_maps.specs.Orders.{MayPrecede}
use Rattle.left_right_lists.specs.Sides.{side_in}
use Rattle.left_right_lists.proofs.edge_orders.Choice.may_all_precede.Given as goal

abbrev pub invariant-loop-d : goal.invariant-loop-d
invariant-loop-d l = (j : ℕ) → j < l.d-index → (e : Dart) → Contains l.es e → MayPrecede (slice_index l.self.depths.now) (side_in l.self.sides.now) (get_or l.ds j (0, 0)) e

abbrev pub invariant-loop-e : goal.invariant-loop-e
invariant-loop-e l = (j : ℕ) → j < l.e-index → MayPrecede (slice_index l.self.depths.now) (side_in l.self.sides.now) l.d (get_or l.es j (0, 0))
