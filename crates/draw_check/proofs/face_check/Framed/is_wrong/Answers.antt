use Rattle.std.proofs.Common.{◌≡◌, ℕ, ◌<◌, true, not, sym, subst, arith}
use Rattle.vertex_rounds.specs.Rounds.{dart_of}
use Rattle.vertex_rounds.proofs.DartIds.{dart_of-live, has_dart, tail_is, head_is, face_next_head}
use Rattle.draw_check.specs.FaceVerdicts.{IsDrawnWrong}
use Rattle.draw_check.proofs.FaceIds.{IsSign, well_is, wrong_is}
use Rattle.draw_check.proofs.face_check.Framed.is_wrong.Goals as goal

pub turns_well-requires-clause-c : goal.turns_well-requires-clause-c
turns_well-requires-clause-c c =
    let map = c.args.self.now.drawing.map.now in
    let d = dart_of map c.args.d.0 in
    let third = face_next_head map c.args.self.now.drawing.map.now.known c.args.d.0 c.face_step.result.0 d.0 d.1 c.head-c.result.0 (dart_of-live map c.args.d.0 c.requires) c.face_step.ensures c.head-c.ensures in
    let l = c.args.self.now.drawing.map.now.known.simple.in_range d.1 c.head-c.result.0 third.1 in
    let n = c.args.self.now.drawing.places.count in
    omega arith

pub returns-then-a-c : goal.returns-then-a-c
returns-then-a-c c =
    let map = c.args.self.now.drawing.map.now in
    let points = c.args.self.now.drawing.points.now in
    let base = dart_of map c.args.self.now.base.0 in
    let d = c.args.d.0 in
    let dart = dart_of map d in
    let w = c.head-c.result.0 in
    let first : c.tail-a.result.0 ≡ dart.0 = sym (tail_is map d c.tail-a.result.0 c.requires c.tail-a.ensures) in
    let second : c.head-b.result.0 ≡ dart.1 = sym (head_is map d c.head-b.result.0 c.requires c.head-b.ensures) in
    let third = face_next_head map c.args.self.now.drawing.map.now.known d c.face_step.result.0 dart.0 dart.1 w (dart_of-live map d c.requires) c.face_step.ensures c.head-c.ensures in
    let on = c.is_on_base.result in
    let r = c.turns_well.result in
    let sign = subst (λ (x : ℕ). IsSign points on r dart.0 x w) second (subst (λ (x : ℕ). IsSign points on r x c.head-b.result.0 w) first c.turns_well.ensures) in
    subst (λ (x : ℕ). (not r ≡ true → IsDrawnWrong map.lists points base dart.0 dart.1 x) × (IsDrawnWrong map.lists points base dart.0 dart.1 x → not r ≡ true)) (sym third.0)
    (wrong_is map.lists points base dart.0 dart.1 w r (has_dart map c.args.self.now.drawing.map.now.known d c.requires) third.0
    (subst (λ (x : ℕ). x < dart.1) first (subst (λ (x : ℕ). c.tail-a.result.0 < x) second c.if-a-b.true), subst (λ (x : ℕ). x < w) first c.if-a-c.true)
    (well_is map.lists points base dart.0 dart.1 w on r c.is_on_base.ensures sign))
