-- Why a call on an array of edges has no answer, and the graph of one that has.
use Rattle.std.specs.Prelude.{ℕ, ◌<◌, ◌≤◌, ◌≡◌, ◌↔◌, List, length, Contains}
use Rattle.refusals.specs.declared.conditions.Refusal.{Refusal}
use Rattle.graphs.specs.Graphs.{EdgeGraph, IsGraph}
use Rattle.pigale_c.specs.EdgeLists.{Joins, IsEdgeFault}
use Rattle.pigale_c.specs.declared.edges.EdgeEnds.{EdgeEnds}
use Rattle.pigale_c.specs.declared.outcome.Failure.{Failure}
use Rattle.pigale_c.specs.declared.outcome.Failure.TheVariants.{BadEdge, Refused, NoMemory, BadArgument}

-- The failure of a call on edges is a fault of them, a condition that what is made of them breaks, or out of memory; `BadArgument` only where the arguments are not as it takes them.
abbrev pub FailsOnEdges : Type 0 → ℕ → List EdgeEnds → (Refusal → Type 0) → Failure → Type 0
FailsOnEdges Given n edges Breaks (BadEdge fault) = Given × IsEdgeFault n edges fault
FailsOnEdges Given n edges Breaks (Refused refusal) = Given × Breaks refusal
FailsOnEdges Given n edges Breaks NoMemory = Unit {0}
FailsOnEdges Given n edges Breaks BadArgument = ¬ Given

-- the failure of a call that only looks at the edges
abbrev pub IsEdgeFailure : Type 0 → ℕ → List EdgeEnds → Failure → Type 0
IsEdgeFailure Given n edges (BadEdge fault) = Given × IsEdgeFault n edges fault
IsEdgeFailure Given n edges (Refused refusal) = ⊥
IsEdgeFailure Given n edges NoMemory = Unit {0}
IsEdgeFailure Given n edges BadArgument = ¬ Given

-- the sizes of a graph that is served
pub record AreFew (n : ℕ) (edges : List EdgeEnds) : Type 0 where
  pub vertices : n ≤ 255
  pub edges_few : length edges < 16777216

-- The graph has n vertices and the edges of the array, whatever their order and their direction; none stands there twice.
pub record IsGraphOf (n : ℕ) (edges : List EdgeEnds) (graph : EdgeGraph) : Type 0 where
  pub graph_is : IsGraph graph
  pub vertices : graph.n ≡ n
  pub same : (a b : ℕ) → Contains graph.edges (a, b) ↔ ((a < b) × Joins edges a b)
  pub count : length graph.edges ≡ length edges
