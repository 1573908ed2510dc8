use Rattle.std.proofs.Common.{◌≡◌, ◌<◌, ℕ, true, Contains}
use Rattle.graphs.specs.Graphs.{has_edge}
use Rattle.embed_witnesses.proofs.plain_witnesses.subgraph_search.live_vertices.Given as goal

abbrev pub invariant-loop-v : goal.invariant-loop-v
invariant-loop-v l = (u w : ℕ) → u < l.v → has_edge l.graph u w ≡ true → Contains l.live.items u
