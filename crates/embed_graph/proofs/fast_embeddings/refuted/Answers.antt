use Rattle.std.proofs.Common.{arith}
use Rattle.embed_graph.proofs.Stays.{witness_where_none}
use Rattle.embed_graph.proofs.fast_embeddings.refuted.Goals as goal

pub contracted_witness-requires : goal.contracted_witness-requires
contracted_witness-requires c = witness_where_none c.args.graph.now c.n-n.ensures.known (omega (arith, c.requires.some)) c.requires.none
