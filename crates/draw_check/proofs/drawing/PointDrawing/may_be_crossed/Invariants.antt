use Rattle.std.proofs.Common.{ℕ, ◌<◌, get_or}
use Rattle.map_theory.specs.Maps.{HasDart}
use Rattle.draw_check.specs.Loops.{Touches}
use Rattle.draw_check.specs.declared.edge_meetings.Probe.TheVariants.{Edge}
use Rattle.draw_check.proofs.drawing.PointDrawing.may_be_crossed.Given as goal

abbrev pub invariant-loop-i : goal.invariant-loop-i
invariant-loop-i l = (k : ℕ) → k < l.i → (u : ℕ) → HasDart l.self.map.now.lists (get_or l.loose k 0) u → ¬ Touches l.self.points.now (Edge l.fn.a l.fn.b) (get_or l.loose k 0) u
