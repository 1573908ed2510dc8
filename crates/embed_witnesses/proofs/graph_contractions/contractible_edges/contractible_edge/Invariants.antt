use Rattle.std.proofs.Common.{ℕ, ◌<◌}
use Rattle.embed_witnesses.specs.Contractible.{IsContractibleEdge}
use Rattle.embed_witnesses.proofs.graph_contractions.contractible_edges.contractible_edge.Given as goal

abbrev pub invariant-loop-u : goal.invariant-loop-u
invariant-loop-u l = (a b : ℕ) → a < l.u → ¬ IsContractibleEdge l.graph a b
