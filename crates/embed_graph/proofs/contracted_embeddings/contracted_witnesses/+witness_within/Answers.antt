use Rattle.embed_graph.proofs.Stays.{one_is_found}
use Rattle.embed_graph.proofs.contracted_embeddings.contracted_witnesses.+witness_within.Goals as goal

pub unreachable-requires : goal.unreachable-requires
unreachable-requires t c =
    one_is_found c.args.graph.now c.in_ok-e.field-0 c.in_ok-witness-in-None.field-0 _ _ c.n-n.ensures.known c.requires.some c.in_ok-e.ensures c.in-None.is c.in_ok-witness-in-None.ensures c.in-None-2.is
