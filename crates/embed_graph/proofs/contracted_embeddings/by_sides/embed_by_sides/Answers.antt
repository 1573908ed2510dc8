use Rattle.embed_graph.proofs.Stays.{witness_where_none}
use Rattle.embed_graph.proofs.contracted_embeddings.by_sides.embed_by_sides.Goals as goal

pub contracted_witness-requires : goal.contracted_witness-requires
contracted_witness-requires c = witness_where_none c.args.graph.now c.n-n.ensures.known c.requires (rw c.in-None.is at c.in_ok-map.ensures)
