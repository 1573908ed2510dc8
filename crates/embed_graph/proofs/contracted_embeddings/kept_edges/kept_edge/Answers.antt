use Rattle.std.proofs.Common.{arith}
use Rattle.embed_graph.proofs.Stays.{kept_within}
use Rattle.embed_graph.proofs.contracted_embeddings.kept_edges.kept_edge.Goals as goal

pub returns : goal.returns
returns c a b kept =
    let l = (kept_within c.args.graph.now a b c.n-u-end.ensures.known kept).0 in
    let k = c.n-u-end.ensures.count in
    let t = c.loop-u-test.false in
    c.loop-u.invariant a b (omega arith) kept
