use Rattle.std.proofs.Common.{arith}
use Rattle.map_theory.proofs.DartLemmas.{darts_before_none, darts_before_all}
use Rattle.draw_check.proofs.drawing.PointDrawing.add_all.Goals as goal

pub loop-v-init : goal.loop-v-init
loop-v-init c = rw (darts_before_none c.args.self.now.map.now.lists) c.requires.sums

pub returns : goal.returns
returns c = rw (← (darts_before_all c.args.self.now.map.now.lists c.loop-v.v (omega arith))) c.loop-v.invariant
