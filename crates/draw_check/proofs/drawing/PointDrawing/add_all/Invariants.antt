use Rattle.map_theory.specs.Maps.{darts_before}
use Rattle.draw_check.specs.FaceSums.{AreSumsBelow}
use Rattle.draw_check.proofs.drawing.PointDrawing.add_all.Given as goal

abbrev pub invariant-loop-v : goal.invariant-loop-v
invariant-loop-v l = AreSumsBelow l.self.map.now l.self.points.now l.faces (darts_before l.self.map.now.lists l.v) l.sums
