-- A graph with an edge contracted.
use Rattle.std.specs.Prelude.{ℕ, ◌-◌, List, filter}
use Rattle.graphs.specs.Graphs.{Edge, EdgeGraph}
use Rattle.graphs.specs.Bits.{pairs}
use Rattle.embed_contraction.specs.Contracted.{contracted_edge}

-- those of some pairs that are edges after the edge of a and b is contracted
abbrev pub contracted_among : EdgeGraph → ℕ → ℕ → List Edge → List Edge
contracted_among graph a b pairs = filter (λ e. contracted_edge graph a b e.0 e.1) pairs

-- the graph with the edge of a and b contracted, of which b, the greater, leaves
abbrev pub contraction : EdgeGraph → ℕ → ℕ → EdgeGraph
contraction graph a b = record { n = graph.n - 1; edges = contracted_among graph a b (pairs (graph.n - 1)) }
