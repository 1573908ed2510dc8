-- Each neighbour before this place that comes before the vertex has its common neighbours next to it.
use Rattle.std.proofs.Common.{ℕ, ◌<◌, get_or}
use Rattle.map_theory.specs.Maps.{list_of}
use Rattle.rect_class.specs.Corners.{IsClosedOver, ComesBefore}
use Rattle.rect_class.proofs.separation_by_corners.Star.is_closed.Given as goal

abbrev pub invariant-loop-k : goal.invariant-loop-k
invariant-loop-k l = (k : ℕ) → k < l.k → ComesBefore l.self.degrees.now (get_or (list_of l.self.lists.now l.self.v) k 0) l.self.v → IsClosedOver l.self.lists.now l.self.v (get_or (list_of l.self.lists.now l.self.v) k 0)
