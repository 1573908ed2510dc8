use Rattle.std.proofs.Common.{◌<◌, ℕ}
use Rattle.embed_witnesses.specs.Kept.{IsKept}
use Rattle.embed_graph.proofs.contracted_embeddings.kept_edges.kept_above.Given as goal

abbrev pub invariant-loop-v : goal.invariant-loop-v
invariant-loop-v l = (b : ℕ) → b < l.v → ¬ IsKept l.graph l.u b
