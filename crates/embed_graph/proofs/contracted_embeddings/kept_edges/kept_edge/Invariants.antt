use Rattle.std.proofs.Common.{◌<◌, ℕ}
use Rattle.embed_witnesses.specs.Kept.{IsKept}
use Rattle.embed_graph.proofs.contracted_embeddings.kept_edges.kept_edge.Given as goal

abbrev pub invariant-loop-u : goal.invariant-loop-u
invariant-loop-u l = (a b : ℕ) → a < l.u → ¬ IsKept l.graph a b
