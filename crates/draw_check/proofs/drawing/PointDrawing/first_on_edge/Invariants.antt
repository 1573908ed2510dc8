use Rattle.std.proofs.Common.{ℕ, ◌<◌}
use Rattle.draw_check.specs.Faults.{LiesOnEdge}
use Rattle.draw_check.proofs.drawing.PointDrawing.first_on_edge.Given as goal

abbrev pub invariant-loop-v : goal.invariant-loop-v
invariant-loop-v l = (s a b : ℕ) → s < l.v → ¬ LiesOnEdge l.self.map.now.lists l.self.points.now s a b
