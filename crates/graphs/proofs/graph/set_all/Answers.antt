use Rattle.std.proofs.Common.{◌==◌, ◌||◌, ℕ, List, sym, subst, ap, ◌∙◌, arith}
use Rattle.graphs.specs.Bits.{is_set}
use Rattle.graphs.proofs.BitLemmas.{pair_place-lt, body_length-bounds}
use Rattle.graphs.proofs.EdgeLemmas.{AreMarked, AreMarked-begin, AreMarked-more, AreMarked-done, ends_at}
use Rattle.graphs.proofs.graph.set_all.Goals as goal

pub loop-edge-init : goal.loop-edge-init
loop-edge-init c = subst (λ (body : List ℕ). AreMarked c.args.n body c.args.edges.now 0) (sym c.requires.empty) (AreMarked-begin c.args.n c.args.edges.now)

pub set-requires-clause-within : goal.set-requires-clause-within
set-requires-clause-within c =
    let ends = ends_at c.args.n c.args.edges.now c.loop-edge.edge-index c.edge-item.result c.requires.edges c.loop-edge-test.true (sym c.edge-item.is) in
    let place = pair_place-lt c.edge-item.result.a.0 c.edge-item.result.b.0 c.args.n ends.0 ends.1 in
    let bounds = body_length-bounds c.args.n in
    let long = c.loop-edge.invariant.long in
    let at = c.pair_place.ensures in
    omega arith

pub set-requires-clause-bytes : goal.set-requires-clause-bytes
set-requires-clause-bytes c = c.loop-edge.invariant.bytes

pub loop-edge-preserved : goal.loop-edge-preserved
loop-edge-preserved c =
    AreMarked-more c.args.n c.loop-edge.body c.set.new.body c.args.edges.now c.loop-edge.edge-index c.edge-item.result c.edge-item.result c.loop-edge.invariant c.loop-edge-test.true (sym c.edge-item.is) (omega arith) c.set.ensures.bytes (λ p. c.set.ensures.bits p ∙ ap (λ q. is_set c.loop-edge.body p || (p == q)) c.pair_place.ensures)

pub returns : goal.returns
returns c = let h = AreMarked-done c.args.n c.loop-edge.body c.args.edges.now c.loop-edge.edge-index c.loop-edge.invariant (omega arith) c.requires.edges in record { bits = h.0; edges = h.1 }
