use Rattle.std.proofs.Common.{pos, get_or, refl, sym, ◌∙◌, arith, rules, eq-eqb, SFits}
use Rattle.std.specs.Int.{w128}
use Rattle.std.proofs.lemmas.Bool.{true≢false}
use Rattle.std.proofs.lemmas.Int.{ints, to_z-of_z}
use Rattle.vertex_rounds.specs.Rounds.{dart_of}
use Rattle.vertex_rounds.proofs.DartIds.{dart_of-live}
use Rattle.draw_check.proofs.FaceSumLemmas.{not_low, low_from, low_to}
use Rattle.draw_check.proofs.outer_face.Summed.has_low_sum.Goals as goal

pub returns-then-face-outer : goal.returns-then-face-outer
returns-then-face-outer c =
    let map = c.args.self.now.map.now in
    let dart = dart_of map c.args.d.0 in
    let is = dart_of-live map c.args.d.0 c.requires.live in
    let from = low_from map c.args.self.now.map.now.known c.args.self.now.faces.now c.requires.faces c.args.self.now.sums.now c.args.self.now.base.0 c.args.d.0 c.of_dart-face.result.0 c.of_dart-outer.result.0 dart.0 dart.1 c.args.self.now.live is c.of_dart-face.ensures.face c.of_dart-outer.ensures.face c.of_dart-face.ensures.stands c.of_dart-outer.ensures.stands in
    let to = low_to map c.args.self.now.map.now.known c.args.self.now.faces.now c.requires.faces c.args.self.now.sums.now c.args.self.now.base.0 c.args.d.0 c.of_dart-face.result.0 c.of_dart-outer.result.0 dart.0 dart.1 c.args.self.now.live is c.of_dart-face.ensures.face c.of_dart-outer.ensures.face c.of_dart-face.ensures.stands c.of_dart-outer.ensures.stands in
    let f : SFits w128 (get_or c.args.self.now.sums.now c.of_dart-face.result.0 (pos 0)) = search rules in
    let e = to_z-of_z w128 (get_or c.args.self.now.sums.now c.of_dart-face.result.0 (pos 0)) f in
    rw e (λ t. from c.if-face-outer.true (grind (arith, ints)), λ low. let l = to low in grind (arith, ints))

pub returns-else-face-outer : goal.returns-else-face-outer
returns-else-face-outer c =
    let map = c.args.self.now.map.now in
    let dart = dart_of map c.args.d.0 in
    let is = dart_of-live map c.args.d.0 c.requires.live in (
      λ t. absurd (true≢false (sym t ∙ rw (eq-eqb c.of_dart-face.result.0 c.of_dart-outer.result.0 c.if-face-outer.false) refl)),
      λ low. absurd (not_low map c.args.self.now.map.now.known c.args.self.now.faces.now c.requires.faces c.args.self.now.sums.now c.args.self.now.base.0 c.args.d.0 c.of_dart-face.result.0 c.of_dart-outer.result.0 dart.0 dart.1 c.args.self.now.live is c.of_dart-face.ensures.face c.of_dart-outer.ensures.face c.of_dart-face.ensures.stands c.of_dart-outer.ensures.stands c.if-face-outer.false low),
    )
