use Rattle.std.proofs.Common.{Some, None, rules, arith}
use Rattle.vertex_rounds.specs.Rounds.{dart_of}
use Rattle.vertex_rounds.proofs.DartIds.{has_dart, face_next_head}
use Rattle.vertex_rounds.proofs.FirstLemmas.{least_pair}
use Rattle.draw_check.specs.FaceVerdicts.{IsWrongFrom}
use Rattle.draw_check.proofs.FaceIds.{no_wrong_three, least_wrong_three}
use Rattle.draw_check.proofs.FaceLemmas.{counterclockwise_from}
use Rattle.draw_check.proofs.face_check.check_points_by_faces.Goals as goal

pub dart_of-requires-clause-v_in : goal.dart_of-requires-clause-v_in
dart_of-requires-clause-v_in c =
    let map = c.args.tri.now in
    let a = c.in-Some-first_dart.a in
    let b = c.in-Some-first_dart.b in
    let first = least_pair map c.args.tri.now.known _ (IsWrongFrom map c.args.points.now c.args.base.0) 0 (Some (a, b)) c.in-Some-first_dart.ensures (λ d live late r s. search rules) (λ v u x. (omega arith, x.dart)) in
    c.args.tri.now.known.simple.in_range a.0 b.0 first.rest.here.dart

pub returns-in-Some-dart_of : goal.returns-in-Some-dart_of
returns-in-Some-dart_of c =
    let map = c.args.tri.now in
    let points = c.args.points.now in
    let base = c.args.base.0 in
    let a = c.in-Some-first_dart.a in
    let b = c.in-Some-first_dart.b in
    let first = least_pair map c.args.tri.now.known _ (IsWrongFrom map points base) 0 (Some (a, b)) c.in-Some-first_dart.ensures (λ d live late r s. search rules) (λ v u x. (omega arith, x.dart)) in (
      c.in_default.ensures,
      least_wrong_three map points base a.0 b.0 c.head.result.0 first
          (face_next_head map c.args.tri.now.known c.in-Some-dart_of.d.0 c.face_step.result.0 a.0 b.0 c.head.result.0 c.in-Some-dart_of.ensures c.face_step.ensures c.head.ensures).0,
    )

pub returns-in-None : goal.returns-in-None
returns-in-None c =
    let map = c.args.tri.now in
    let points = c.args.points.now in
    let base = c.args.base.0 in
    let none = least_pair map c.args.tri.now.known _ (IsWrongFrom map points base) 0 None c.in-None.ensures (λ d live late r s. search rules) (λ v u x. (omega arith, x.dart)) in (
      c.in_default.ensures,
      counterclockwise_from map.lists c.requires.triangulation points (dart_of map base) (no_wrong_three map points base none) (has_dart map c.args.tri.now.known base c.requires.base),
    )
