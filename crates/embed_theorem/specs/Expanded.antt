-- A contracted edge expanded again. All vertices keep their numbers, and one that has left has no edge.
use Rattle.std.specs.Prelude.{ℕ, ◌≡◌, ◌≢◌, ◌⊎◌, true, [], ◌∷◌, length, Contains}
use Rattle.map_lists.specs.Lists.{Lists}
use Rattle.map_theory.specs.Maps.{HasDart, IsSimpleMap, IsPlane}
use Rattle.graphs.specs.Graphs.{EdgeGraph, has_edge}
use Rattle.embed_contraction.specs.Linked.{HasEdge, IsThreeLinked, IsContractible}
use Rattle.embed_contraction.specs.Traces.{HasWitness}

-- lists with just the edges of a graph
pub record HasJustEdges (lists : Lists) (graph : EdgeGraph) : Type 0 where
  pub vertices : length lists ≡ graph.n
  pub there : (u v : ℕ) → HasDart lists u v → has_edge graph u v ≡ true
  pub all : (u v : ℕ) → has_edge graph u v ≡ true → HasDart lists u v

-- a map of genus zero of a graph
pub record IsMapOf (lists : Lists) (graph : EdgeGraph) : Type 0 where
  pub simple : IsSimpleMap lists
  pub plane : IsPlane lists
  pub edges : HasJustEdges lists graph

-- besides any three vertices there is one more with an edge
abbrev pub HasFour : Lists → Type 0
HasFour lists = (a b c : ℕ) → (d : ℕ) × HasEdge lists d × ¬ Contains (a ∷ b ∷ c ∷ []) d

-- small is graph with the edge of x and y contracted: y has left, and x has the neighbours of both
pub record IsContractedInto (graph small : EdgeGraph) (x y : ℕ) : Type 0 where
  pub vertices : small.n ≡ graph.n
  pub left : (u v : ℕ) → has_edge small u v ≡ true → (u ≢ y) × (v ≢ y)
  pub edges : (u v : ℕ) → has_edge small u v ≡ true → (has_edge graph u v ≡ true) ⊎ (((u ≡ x) × (has_edge graph y v ≡ true)) ⊎ ((v ≡ x) × (has_edge graph u y ≡ true)))
  pub kept : (u v : ℕ) → u ≢ y → v ≢ y → has_edge graph u v ≡ true → has_edge small u v ≡ true
  pub moved : (v : ℕ) → v ≢ x → has_edge graph y v ≡ true → has_edge small x v ≡ true

-- Let no two vertices part the others, and the edge of x and y be one that can be contracted: from a map of the contracted graph comes a map of the graph, or a witness.
abbrev pub ExpandedEdge : Type 0
ExpandedEdge =
    (graph small : EdgeGraph) (lists : Lists) (x y : ℕ) → IsSimpleMap lists → HasJustEdges lists graph → IsThreeLinked lists → HasFour lists → IsContractible lists x y → IsContractedInto graph small x y → (map : Lists) → IsMapOf map small → HasWitness graph ⊎ ((new : Lists) × IsMapOf new graph)
