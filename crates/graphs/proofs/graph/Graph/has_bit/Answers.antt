use Rattle.std.proofs.Common.{length, ◌∙◌, sym, ap, ap₂, arith}
use Rattle.graphs.specs.Graphs.{EdgeGraph, has_edge}
use Rattle.graphs.specs.Bits.{is_set}
use Rattle.graphs.proofs.BitLemmas.{pair_place-lt, body_length-bounds}
use Rattle.graphs.proofs.EdgeLemmas.{joined_as_bit}
use Rattle.graphs.proofs.graph.Graph.has_bit.Goals as goal

pub is_set-requires : goal.is_set-requires
is_set-requires c =
    let n = ap (λ (g : EdgeGraph). g.n) c.self.view_is in
    let place = pair_place-lt c.args.u c.args.v c.self.inside.vertices c.requires.order (omega (arith, n, c.requires.vertex)) in
    let bounds = body_length-bounds c.self.inside.vertices in
    let long = c.self.invariant.1.long in
    let same = ap length c.deref.ensures.value in
    let at = c.pair_place.ensures in
    omega arith

pub returns : goal.returns
returns c =
    let n = ap (λ (g : EdgeGraph). g.n) c.self.view_is in
    c.is_set.ensures
    ∙ (ap₂ is_set c.deref.ensures.value c.pair_place.ensures
    ∙ (sym (joined_as_bit c.self.inside.vertices c.self.inside.body.items c.args.u c.args.v c.requires.order (omega (arith, n, c.requires.vertex)))
    ∙ ap (λ (g : EdgeGraph). has_edge g c.args.u c.args.v) c.self.view_is))
