use Rattle.std.proofs.Common.{Some, None, rules}
use Rattle.draw_check.proofs.MetLemmas.{first_late}
use Rattle.draw_check.proofs.drawing.PointDrawing.first_met.Goals as goal

pub invariant_of-result : goal.invariant_of-result
invariant_of-result c =
    let least = first_late c.args.self.now.map.now c.args.self.now.map.now.known c.args.self.now.points.now c.args.probe c.args.from _ (Some (c.in-Some.a, c.in-Some.b)) c.in-Some.ensures (λ d live late r s. search rules) in
    record { rising = least.rest.here.met.edge.0 }

pub returns-in-Some : goal.returns-in-Some
returns-in-Some c = first_late c.args.self.now.map.now c.args.self.now.map.now.known c.args.self.now.points.now c.args.probe c.args.from _ (Some (c.in-Some.a, c.in-Some.b)) c.in-Some.ensures (λ d live late r s. search rules)

pub returns-in-None : goal.returns-in-None
returns-in-None c = first_late c.args.self.now.map.now c.args.self.now.map.now.known c.args.self.now.points.now c.args.probe c.args.from _ None c.in-None.ensures (λ d live late r s. search rules)
