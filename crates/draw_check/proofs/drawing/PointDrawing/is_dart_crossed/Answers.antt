use Rattle.std.proofs.Common.{refl, sym, subst, arith}
use Rattle.std.proofs.lemmas.Bool.{false≢true}
use Rattle.map_theory.specs.Maps.{Dart, HasDart}
use Rattle.vertex_rounds.proofs.DartIds.{has_dart, ends_are}
use Rattle.draw_check.specs.Loops.{IsCrossed}
use Rattle.draw_check.proofs.drawing.PointDrawing.is_dart_crossed.Goals as goal

pub may_be_crossed-requires-clause-edge : goal.may_be_crossed-requires-clause-edge
may_be_crossed-requires-clause-edge c =
    let map = c.args.self.now.map.now in
    let same = ends_are map c.args.d.0 c.tail-a.result.0 c.head-b.result.0 c.requires.live c.tail-a.ensures c.head-b.ensures in
    (c.if-b-a.false, subst (λ (x : Dart). HasDart map.lists x.0 x.1) (sym same) (has_dart map c.args.self.now.map.now.known c.args.d.0 c.requires.live))

pub crossing_of-requires : goal.crossing_of-requires
crossing_of-requires c =
    let map = c.args.self.now.map.now in
    let same = ends_are map c.args.d.0 c.tail-a.result.0 c.head-b.result.0 c.requires.live c.tail-a.ensures c.head-b.ensures in
    record { edge = (c.if-b-a.false, subst (λ (x : Dart). HasDart map.lists x.0 x.1) (sym same) (has_dart map c.args.self.now.map.now.known c.args.d.0 c.requires.live)) }

pub returns-then-b-a : goal.returns-then-b-a
returns-then-b-a c =
    let map = c.args.self.now.map.now in
    let same = ends_are map c.args.d.0 c.tail-a.result.0 c.head-b.result.0 c.requires.live c.tail-a.ensures c.head-b.ensures in
    (λ e. absurd (false≢true e), λ x. absurd (let less = (subst (λ (y : Dart). IsCrossed map.lists c.args.self.now.points.now y.0 y.1) (sym same) x).cross.first.0 in omega (arith, c.if-b-a.true)))

pub returns-then-not-may_be_crossed : goal.returns-then-not-may_be_crossed
returns-then-not-may_be_crossed c =
    let map = c.args.self.now.map.now in
    let same = ends_are map c.args.d.0 c.tail-a.result.0 c.head-b.result.0 c.requires.live c.tail-a.ensures c.head-b.ensures in
    (λ e. absurd (false≢true e), λ x. absurd (let y = subst (λ (y : Dart). IsCrossed map.lists c.args.self.now.points.now y.0 y.1) (sym same) x in c.may_be_crossed.ensures c.if-not-may_be_crossed.true y.first y.second y.cross))

pub returns-in-Some : goal.returns-in-Some
returns-in-Some c =
    let map = c.args.self.now.map.now in
    let same = ends_are map c.args.d.0 c.tail-a.result.0 c.head-b.result.0 c.requires.live c.tail-a.ensures c.head-b.ensures in
    let least = c.in-Some.ensures in
    (λ e. subst (λ (y : Dart). IsCrossed map.lists c.args.self.now.points.now y.0 y.1) same (record { first = _; second = _; cross = least.rest.here }), λ x. refl)

pub returns-in-None : goal.returns-in-None
returns-in-None c =
    let map = c.args.self.now.map.now in
    let same = ends_are map c.args.d.0 c.tail-a.result.0 c.head-b.result.0 c.requires.live c.tail-a.ensures c.head-b.ensures in
    (λ e. absurd (false≢true e), λ x. absurd (let y = subst (λ (y : Dart). IsCrossed map.lists c.args.self.now.points.now y.0 y.1) (sym same) x in c.in-None.ensures y.first y.second y.cross))
