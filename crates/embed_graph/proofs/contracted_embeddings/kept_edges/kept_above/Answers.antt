use Rattle.std.proofs.Common.{arith}
use Rattle.embed_graph.proofs.Stays.{kept_within}
use Rattle.embed_graph.proofs.contracted_embeddings.kept_edges.kept_above.Goals as goal

pub returns : goal.returns
returns c b kept =
    let l = (kept_within c.args.graph.now c.args.u b c.n-n.ensures.known kept).1 in
    let k = c.n-n.ensures.count in
    let t = c.loop-v-test.false in
    c.loop-v.invariant b (omega arith) kept
