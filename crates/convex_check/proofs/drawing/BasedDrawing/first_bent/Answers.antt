use Rattle.std.proofs.Common.{Some, None, rules, arith}
use Rattle.vertex_rounds.proofs.FirstLemmas.{least_pair}
use Rattle.vertex_rounds.proofs.DartIds.{face_next_head}
use Rattle.convex_check.specs.Verdicts.{IsBentFrom}
use Rattle.convex_check.proofs.BendLemmas.{none_bent, least_bent}
use Rattle.convex_check.proofs.drawing.BasedDrawing.first_bent.Goals as goal

pub dart_of-requires-clause-v_in : goal.dart_of-requires-clause-v_in
dart_of-requires-clause-v_in c =
    let first = least_pair c.args.self.now.map.now c.args.self.now.map.now.known _ (IsBentFrom c.args.self.now.map.now c.args.self.now.points.now c.args.self.now.base.0) 0 (Some (c.in-Some.a, c.in-Some.b)) c.in-Some.ensures (λ d live late r s. search rules) (λ v u x. (omega arith, x.dart)) in
    c.args.self.now.map.now.known.simple.in_range c.in-Some.a.0 c.in-Some.b.0 first.rest.here.dart

pub returns-in-Some-dart_of : goal.returns-in-Some-dart_of
returns-in-Some-dart_of c =
    least_bent c.args.self.now.map.now c.args.self.now.points.now c.args.self.now.base.0 c.in-Some.a.0 c.in-Some.b.0 c.head.result.0
    (least_pair c.args.self.now.map.now c.args.self.now.map.now.known _ (IsBentFrom c.args.self.now.map.now c.args.self.now.points.now c.args.self.now.base.0) 0 (Some (c.in-Some.a, c.in-Some.b)) c.in-Some.ensures (λ d live late r s. search rules) (λ v u x. (omega arith, x.dart)))
    (face_next_head c.args.self.now.map.now c.args.self.now.map.now.known c.in-Some-dart_of.d.0 c.face_step.result.0 c.in-Some.a.0 c.in-Some.b.0 c.head.result.0 c.in-Some-dart_of.ensures c.face_step.ensures c.head.ensures).0

pub returns-in-None : goal.returns-in-None
returns-in-None c =
    none_bent c.args.self.now.map.now c.args.self.now.points.now c.args.self.now.base.0
    (least_pair c.args.self.now.map.now c.args.self.now.map.now.known _ (IsBentFrom c.args.self.now.map.now c.args.self.now.points.now c.args.self.now.base.0) 0 None c.in-None.ensures (λ d live late r s. search rules) (λ v u x. (omega arith, x.dart)))
