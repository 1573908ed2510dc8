-- A graph with an edge contracted.
use Rattle.std.specs.Prelude.{ℕ, ◌+◌, ◌<◌, ◌≡◌, ◌≢◌, ◌⊎◌, Bool, true, ◌&&◌, ◌||◌, ◌==◌, not, nat_lt, if◌then◌else◌}
use Rattle.graphs.specs.Graphs.{EdgeGraph, has_edge}
use Rattle.embed_contraction.specs.Traces.{HasWitness}

-- The vertices of `small` stand for vertices of `graph` other than y, and x stands for x and y: each edge of `small` is one of `graph` between what its ends stand for.
pub record IsContractedBy (graph small : EdgeGraph) (x y : ℕ) (to : ℕ → ℕ) : Type 0 where
  pub within : (v : ℕ) → v < small.n → to v < graph.n
  pub apart : (u v : ℕ) → to u ≡ to v → u ≡ v
  pub off : (u v : ℕ) → has_edge small u v ≡ true → to u ≢ y
  pub edges : (u v : ℕ) → has_edge small u v ≡ true → (has_edge graph (to u) (to v) ≡ true) ⊎ (((to u ≡ x) × (has_edge graph y (to v) ≡ true)) ⊎ ((to v ≡ x) × (has_edge graph (to u) y ≡ true)))

-- x and y are the ends of an edge
pub record IsEdgeOf (graph : EdgeGraph) (x y : ℕ) : Type 0 where
  pub first : x < graph.n
  pub second : y < graph.n
  pub two : x ≢ y
  pub joined : has_edge graph x y ≡ true

-- A witness of the graph with the edge contracted gives one of the graph.
abbrev pub LiftedWitness : Type 0
LiftedWitness = (graph small : EdgeGraph) (x y : ℕ) (to : ℕ → ℕ) → IsEdgeOf graph x y → IsContractedBy graph small x y to → HasWitness small → HasWitness graph

-- the number that a vertex had before b left: later numbers have fallen by one
abbrev pub before_left : ℕ → ℕ → ℕ
before_left b v = if nat_lt v b then v else v + 1

-- whether an edge joins u and v, where the edge of a and b is contracted and b, the greater of the two, has left: a has the neighbours of both
abbrev pub contracted_edge : EdgeGraph → ℕ → ℕ → ℕ → ℕ → Bool
contracted_edge graph a b u v =
    not (u == v) && (has_edge graph (before_left b u) (before_left b v) || ((u == a) && has_edge graph b (before_left b v)) || ((v == a) && has_edge graph (before_left b u) b))

-- small is the graph with the edge of a and b contracted
pub record IsContraction (graph small : EdgeGraph) (a b : ℕ) : Type 0 where
  pub vertices : small.n + 1 ≡ graph.n
  pub edges : (u v : ℕ) → u < small.n → v < small.n → has_edge small u v ≡ contracted_edge graph a b u v
  pub within : (u v : ℕ) → has_edge small u v ≡ true → (u < small.n) × (v < small.n)

-- A witness of the contracted graph gives one of the graph.
abbrev pub LiftedContraction : Type 0
LiftedContraction = (graph small : EdgeGraph) (a b : ℕ) → IsEdgeOf graph a b → a < b → IsContraction graph small a b → HasWitness small → HasWitness graph
