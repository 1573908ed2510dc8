use Rattle.std.proofs.Common.{Some, None, rules, arith}
use Rattle.draw_check.specs.Loops.{IsCrossed}
use Rattle.vertex_rounds.proofs.FirstLemmas.{least_pair}
use Rattle.draw_check.proofs.drawing.PointDrawing.first_crossed_edge.Goals as goal

pub returns-in-Some-first_dart : goal.returns-in-Some-first_dart
returns-in-Some-first_dart c =
    least_pair c.args.self.now.map.now c.args.self.now.map.now.known _ (IsCrossed c.args.self.now.map.now.lists c.args.self.now.points.now) 0 (Some (c.in-Some-first_dart.a, c.in-Some-first_dart.b)) c.in-Some-first_dart.ensures (λ d live late r s. search rules) (λ v u x. (omega arith, x.cross.first.1))

pub returns-in-None : goal.returns-in-None
returns-in-None c =
    least_pair c.args.self.now.map.now c.args.self.now.map.now.known _ (IsCrossed c.args.self.now.map.now.lists c.args.self.now.points.now) 0 None c.in-None.ensures (λ d live late r s. search rules) (λ v u x. (omega arith, x.cross.first.1))
