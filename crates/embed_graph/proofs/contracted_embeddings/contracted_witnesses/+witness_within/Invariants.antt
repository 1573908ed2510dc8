use Rattle.embed_graph.proofs.contracted_embeddings.contracted_witnesses.+witness_within.Given as goal

abbrev pub decreases-witness_within : goal.decreases-witness_within
decreases-witness_within l = l.count
