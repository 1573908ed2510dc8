-- What is joined without some vertices. A graph is a simple map here, of which the order round its vertices is not looked at; vertices without edges are left aside.
use Rattle.std.specs.Prelude.{ℕ, ◌≢◌, ◌==◌, not, Bool, List, [], ◌∷◌, Contains}
use Rattle.std.specs.List.{list_any}
use Rattle.map_lists.specs.Lists.{Lists}
use Rattle.map_theory.specs.Maps.{HasDart, IsSimpleMap, SameComponent}
use Rattle.plane_peeling.specs.Restricted.{restricted}

-- all vertices but those of a list
abbrev pub outside : List ℕ → ℕ → Bool
outside vs u = not (list_any (λ w. w == u) vs)

-- the map without the vertices of a list, which stay as isolated ones
abbrev pub without_vertices : List ℕ → Lists → Lists
without_vertices vs lists = restricted (outside vs) lists

-- v has an edge
abbrev pub HasEdge : Lists → ℕ → Type 0
HasEdge lists v = (u : ℕ) × HasDart lists v u

-- without the vertices of a list all others are joined
abbrev pub IsLinkedWithout : Lists → List ℕ → Type 0
IsLinkedWithout lists vs =
    (s t : ℕ) → HasEdge lists s → HasEdge lists t → ¬ Contains vs s → ¬ Contains vs t → SameComponent (without_vertices vs lists) s t

-- they are without any two
abbrev pub IsThreeLinked : Lists → Type 0
IsThreeLinked lists = (u v : ℕ) → IsLinkedWithout lists (u ∷ v ∷ [])

-- x and y are adjacent, and without both and any third vertex all others are joined: contracted, they and no other part the rest
pub record IsContractible (lists : Lists) (x y : ℕ) : Type 0 where
  pub edge : HasDart lists x y
  pub linked : (w : ℕ) → HasEdge lists w → w ≢ x → w ≢ y → IsLinkedWithout lists (x ∷ y ∷ w ∷ [])

-- Where no two vertices part the others there is such an edge, if there is one at all.
abbrev pub ContractibleEdge : Type 0
ContractibleEdge =
    (lists : Lists) (u v : ℕ) → IsSimpleMap lists → IsThreeLinked lists → HasDart lists u v → (x : ℕ) × (y : ℕ) × IsContractible lists x y
