use Rattle.std.proofs.Common.{sym, ◌∙◌, arith}
use Rattle.vertex_rounds.specs.Rounds.{dart_of}
use Rattle.vertex_rounds.proofs.DartIds.{dart_of-live}
use Rattle.convex_faces.proofs.WoodLemmas.{before_is, IsWoodIn-made, IsDrawnWood-made}
use Rattle.convex_faces.proofs.wood.wood_of_map.convex_wood.Goals as goal

pub outs_along-requires : goal.outs_along-requires
outs_along-requires c =
    let b = dart_of c.args.map.now c.args.base.0 in
    let live = dart_of-live c.args.map.now c.args.base.0 c.requires.base in
    (c.in_ok-figure.ensures.points b.0 b.1 live).count

pub outs_along-requires-2 : goal.outs_along-requires-2
outs_along-requires-2 c =
    let b = dart_of c.args.map.now c.args.base.0 in
    let live = dart_of-live c.args.map.now c.args.base.0 c.requires.base in
    (c.in_ok-figure.ensures.points b.0 b.1 live).count

pub outs_along-requires-3 : goal.outs_along-requires-3
outs_along-requires-3 c =
    let b = dart_of c.args.map.now c.args.base.0 in
    let live = dart_of-live c.args.map.now c.args.base.0 c.requires.base in
    (c.in_ok-figure.ensures.points b.0 b.1 live).count

pub invariant_of-result : goal.invariant_of-result
invariant_of-result c =
    let few = c.args.map.now.known.few_vertices in
    let a = c.in_ok-ones.ensures.count in
    let b = c.in_ok-twos.ensures.count in
    let d = c.in_ok-threes.ensures.count in
    (b ∙ sym a, d ∙ sym a, omega arith)

pub returns-clause-wood : goal.returns-clause-wood
returns-clause-wood c = λ s d e.
    IsWoodIn-made c.args.map.now c.args.map.now.known c.args.base.0 s d c.in_ok-figure.figure.points _ e c.head-first.ensures c.tail-second.ensures
    (λ s d e. before_is c.args.map.now c.args.map.now.known c.prev-before.result.0 c.args.base.0 s d c.head-third.result.0 c.prev-before.ensures.live c.prev-before.ensures.before e c.head-third.ensures)
    c.in_ok-ones.ensures.count c.in_ok-ones.ensures.noted c.in_ok-twos.ensures.noted c.in_ok-threes.ensures.noted (c.in_ok-figure.ensures.points s d e)

pub returns-clause-drawn : goal.returns-clause-drawn
returns-clause-drawn c = λ s d e.
    IsDrawnWood-made c.args.map.now c.args.map.now.known c.args.base.0 s d c.in_ok-figure.figure.points _ e c.head-first.ensures c.tail-second.ensures
    (λ s d e. before_is c.args.map.now c.args.map.now.known c.prev-before.result.0 c.args.base.0 s d c.head-third.result.0 c.prev-before.ensures.live c.prev-before.ensures.before e c.head-third.ensures)
    c.in_ok-ones.ensures.count c.in_ok-ones.ensures.noted c.in_ok-twos.ensures.noted c.in_ok-threes.ensures.noted (c.in_ok-figure.ensures.points s d e) c.requires.plane c.requires.three.connected
