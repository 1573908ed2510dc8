use Rattle.std.proofs.Common.{ℕ, ◌<◌, ◌≤◌, length}
use Rattle.map_theory.specs.Maps.{list_of}
use Rattle.plane_drawings.specs.Drawing.{GoesOnceRound}
use Rattle.draw_check.proofs.drawing.PointDrawing.first_turned.Given as goal

abbrev pub invariant-loop-v : goal.invariant-loop-v
invariant-loop-v l = (u : ℕ) → u < l.v → 2 ≤ length (list_of l.self.map.now.lists u) → GoesOnceRound l.self.map.now.lists l.self.points.now u
