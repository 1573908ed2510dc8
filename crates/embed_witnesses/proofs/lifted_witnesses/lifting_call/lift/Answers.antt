use Rattle.std.proofs.Common.{arith}
use Rattle.embed_witnesses.proofs.ContractedLemmas.{edge_within}
use Rattle.embed_witnesses.proofs.Lifts.{some_right}
use Rattle.embed_witnesses.proofs.lifted_witnesses.lifting_call.lift.Goals as goal

pub unreachable-requires : goal.unreachable-requires
unreachable-requires c =
    let graph = c.args.graph.now in
    let a = c.args.e.a.0 in
    let b = c.args.e.b.0 in
    let l = edge_within graph c.n-n.ensures.known.edges a b c.requires.edge in
    let less = c.args.e.rising in
    let w = c.in_ok-old.old in
    some_right graph a b (record { first = l.0; second = l.1; two = λ q. omega arith; joined = c.requires.edge }) w.kind w.branch w.paths c.in_ok-old.ensures
    (rw c.in-None.is at c.in_ok-w.ensures)
    (rw c.in-None-2.is at c.in_ok-w-2.ensures)
    (rw c.in-None-3.is at c.in_ok-w-3.ensures)
