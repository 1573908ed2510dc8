use Rattle.std.proofs.Common.{◌≡◌, ◌<◌, ℕ, false}
use Rattle.graphs.specs.Graphs.{has_edge}
use Rattle.embed_witnesses.proofs.plain_witnesses.subgraph_search.has_edges.Given as goal

abbrev pub invariant-loop-u : goal.invariant-loop-u
invariant-loop-u l = (u : ℕ) → u < l.u → has_edge l.graph l.v u ≡ false
