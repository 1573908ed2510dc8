use Rattle.std.proofs.Common.{ℕ, ◌<◌}
use Rattle.embed_witnesses.specs.Contractible.{IsContractibleEdge}
use Rattle.embed_witnesses.proofs.graph_contractions.contractible_edges.contractible_above.Given as goal

abbrev pub invariant-loop-v : goal.invariant-loop-v
invariant-loop-v l = (d : ℕ) → d < l.v → ¬ IsContractibleEdge l.graph l.u d
