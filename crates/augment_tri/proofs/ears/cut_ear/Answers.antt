use Rattle.std.proofs.Common.{◌≡◌, Some, option_map, ap, ◌∙◌}
use Rattle.map_theory.specs.Maps.{Dart, follows, face_step, twin_dart}
use Rattle.half_edges.specs.Map.{dart_at}
use Rattle.augment_tri.proofs.NearEars.{dart_before}
use Rattle.augment_tri.proofs.ears.cut_ear.Goals as goal

pub returns-clause-cut : goal.returns-clause-cut
returns-clause-cut c = λ a b at.
    let map = c.args.map.now in
    let before = dart_before map c.args.d.0 c.prev-before.result.0 a b c.prev-before.ensures.live c.prev-before.ensures.before at in
    let at_e : dart_at map c.face_step.result.0 ≡ Some (b, follows map.lists b a) = c.face_step.ensures ∙ ap (option_map (face_step map.lists)) at in
    let at_back : dart_at map c.twin-back.result.0 ≡ Some (follows map.lists b a, b) = c.twin-back.ensures ∙ ap (option_map twin_dart) at_e in (
      before.0,
      c.args.map.now.known.is_dart _ a before.0 before.1,
      before.2,
      c.add_edge.ensures.lists a (follows map.lists b a) (Some before.0) (Some b)
          (ap (option_map (λ (z : Dart). (z.0, Some z.1))) before.1) (ap (option_map (λ (z : Dart). (z.0, Some z.1))) at_back),
    )

pub returns-clause-dart : goal.returns-clause-dart
returns-clause-dart c = λ a b at.
    let map = c.args.map.now in
    let before = dart_before map c.args.d.0 c.prev-before.result.0 a b c.prev-before.ensures.live c.prev-before.ensures.before at in
    let at_e : dart_at map c.face_step.result.0 ≡ Some (b, follows map.lists b a) = c.face_step.ensures ∙ ap (option_map (face_step map.lists)) at in
    let at_back : dart_at map c.twin-back.result.0 ≡ Some (follows map.lists b a, b) = c.twin-back.ensures ∙ ap (option_map twin_dart) at_e in
    c.add_edge.ensures.dart a (follows map.lists b a) (Some before.0) (Some b)
    (ap (option_map (λ (z : Dart). (z.0, Some z.1))) before.1) (ap (option_map (λ (z : Dart). (z.0, Some z.1))) at_back)
