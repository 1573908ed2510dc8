-- Answers that wrong bodies would give: the clauses refuse them.
use Rattle.std.proofs.Common.{◌<◌, [], ◌∷◌, true, IsTrue, refl, arith}
use Rattle.map_lists.specs.Lists.{Lists}
use Rattle.map_theory.specs.Maps.{genus, IsPlane}
use Rattle.graphs.specs.Graphs.{EdgeGraph}
use Rattle.kuratowski.specs.declared.witness.Witness.{Witness}
use Rattle.embed_theorem.specs.Expanded.{HasJustEdges}
use Rattle.embed_contraction.proofs.FewVertices.{few_without_witness}
use Rattle.embed_graph.specs.Embeddings.{IsEmbedding}
use Rattle.embed_graph.specs.declared.graph_embeddings.embedding.Embedding.TheVariants.{NotPlanar}

-- any genus is let through
any_genus : (lists : Lists) → 0 < genus lists → ¬ (IsTrue true → IsPlane lists)
any_genus lists more w = let e = w refl in omega arith

-- a witness is not checked, here for a graph with too few vertices for any
witness_not_checked : (graph : EdgeGraph) (witness : Witness) → graph.n < 5 → ¬ IsEmbedding graph (NotPlanar witness)
witness_not_checked graph witness few w = few_without_witness graph few (witness.kind, witness.branch, witness.paths, w)

-- lists without edges are let through for a graph with one
edge_too_few : ¬ (IsTrue true → HasJustEdges ([] ∷ [] ∷ [] ∷ []) (record { n = 3; edges = (0, 1) ∷ [] }))
edge_too_few w = let (l, (i, less, e)) = (w refl).all 0 1 refl in omega arith
