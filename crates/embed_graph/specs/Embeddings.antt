-- A map of a graph, or a witness that there is none.
use Rattle.graphs.specs.Graphs.{EdgeGraph}
use Rattle.kuratowski.specs.Witnesses.{IsWitness}
use Rattle.embed_theorem.specs.Expanded.{IsMapOf}
use Rattle.embed_graph.specs.declared.graph_embeddings.embedding.Embedding.{Embedding}
use Rattle.embed_graph.specs.declared.graph_embeddings.embedding.Embedding.TheVariants.{Map, NotPlanar}

-- a simple map of genus zero with exactly the edges of the graph, or a witness that is accepted for it
abbrev pub IsEmbedding : EdgeGraph → Embedding → Type 0
IsEmbedding graph (Map lists) = IsMapOf lists graph
IsEmbedding graph (NotPlanar witness) = IsWitness graph witness.kind witness.branch witness.paths
