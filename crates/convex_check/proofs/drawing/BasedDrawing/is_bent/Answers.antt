use Rattle.std.proofs.Common.{◌≡◌, Contains, refl, sym, subst, ◌∙◌, eq-eqb}
use Rattle.std.proofs.lemmas.Bool.{true≢false}
use Rattle.map_theory.specs.Paths.{SameFace}
use Rattle.euler_faces.specs.FaceWalks.{walk_at}
use Rattle.vertex_rounds.specs.Rounds.{dart_of}
use Rattle.vertex_rounds.proofs.DartIds.{dart_of-live, tail_is, head_is, face_next_head}
use Rattle.convex_check.proofs.BendLemmas.{one_walk_face, face_one_walk, IsBentFrom-turn, turn-IsBentFrom}
use Rattle.convex_check.proofs.drawing.BasedDrawing.is_bent.Goals as goal

pub turns_right-requires-clause-c : goal.turns_right-requires-clause-c
turns_right-requires-clause-c c =
    let map = c.args.self.now.map.now in
    let d = c.args.d.0 in
    let x = dart_of map d in
    let third = face_next_head map c.args.self.now.map.now.known d c.face_step.result.0 x.0 x.1 c.head-c.result.0 (dart_of-live map d c.requires.live) c.face_step.ensures c.head-c.ensures in
    c.args.self.now.map.now.known.simple.in_range x.1 c.head-c.result.0 third.1

pub returns-then-face-outer : goal.returns-then-face-outer
returns-then-face-outer c =
    let map = c.args.self.now.map.now in
    let a = (dart_of map c.args.d.0).0 in
    let b = (dart_of map c.args.d.0).1 in
    let is = dart_of-live map c.args.d.0 c.requires.live in
    let known = c.args.self.now.map.now.known in
    let points = c.args.self.now.points.now in
    let base = c.args.self.now.base.0 in
    let d = c.args.d.0 in
    let tail : c.tail-a.result.0 ≡ a = sym (tail_is map d c.tail-a.result.0 c.requires.live c.tail-a.ensures) in
    let head : c.head-b.result.0 ≡ b = sym (head_is map d c.head-b.result.0 c.requires.live c.head-b.ensures) in
    let third = face_next_head map known d c.face_step.result.0 a b c.head-c.result.0 is c.face_step.ensures c.head-c.ensures in
    let other : ¬ SameFace map.lists (dart_of map base) (a, b) = λ same.
    c.if-face-outer.true
    (face_one_walk map known c.args.faces.now c.requires.faces base d c.args.self.now.based c.requires.live c.of_dart-outer.result.0 c.of_dart-face.result.0 c.of_dart-outer.ensures.face c.of_dart-face.ensures.face c.of_dart-outer.ensures.stands c.of_dart-face.ensures.stands
    same) in (
      λ t. IsBentFrom-turn map points base a b c.tail-a.result.0 c.head-b.result.0 c.head-c.result.0 tail head third.0 (known.is_dart d a b is) other (c.turns_right.ensures.0 t),
      λ bent. c.turns_right.ensures.1 (turn-IsBentFrom map points base a b c.tail-a.result.0 c.head-b.result.0 c.head-c.result.0 tail head third.0 bent),
    )

pub returns-else-face-outer : goal.returns-else-face-outer
returns-else-face-outer c =
    let map = c.args.self.now.map.now in
    let base = c.args.self.now.base.0 in
    let d = c.args.d.0 in
    let same : SameFace map.lists (dart_of map base) (dart_of map d) =
    (one_walk_face map c.args.self.now.map.now.known c.args.faces.now c.requires.faces base d c.args.self.now.based c.requires.live c.of_dart-outer.result.0 c.of_dart-outer.ensures.face c.of_dart-outer.ensures.stands
    (subst (λ f. Contains (walk_at c.args.faces.now f) d) c.if-face-outer.false c.of_dart-face.ensures.stands)) in (
      λ t. absurd (true≢false (sym t ∙ rw (eq-eqb c.of_dart-face.result.0 c.of_dart-outer.result.0 c.if-face-outer.false) refl)),
      λ bent. absurd (bent.other same),
    )
