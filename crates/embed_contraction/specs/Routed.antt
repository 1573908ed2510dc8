-- A witness that uses an edge which a graph lacks, with a path of the graph in its place.
use Rattle.std.specs.Prelude.{ℕ, ◌≡◌, ◌⊎◌, true, false, List, ◌∷◌, AllPairs, Contains, [], ◌≢◌}
use Rattle.graphs.specs.Graphs.{EdgeGraph, has_edge}
use Rattle.embed_contraction.specs.Traces.{HasWitness}

-- edges lead from u along the list to v
abbrev pub LeadsAlong : EdgeGraph → ℕ → List ℕ → ℕ → Type 0
LeadsAlong graph u [] v = has_edge graph u v ≡ true
LeadsAlong graph u (w ∷ mid) v = (has_edge graph u w ≡ true) × LeadsAlong graph w mid v

-- Each edge of `part` is one of `whole`, but maybe that of u and v; and a path of `whole` leads from u to v over vertices that have no edge in `part`.
pub record IsRouted (whole part : EdgeGraph) (u v : ℕ) (mid : List ℕ) : Type 0 where
  pub vertices : part.n ≡ whole.n
  pub edges : (a b : ℕ) → has_edge part a b ≡ true → (has_edge whole a b ≡ true) ⊎ (((a ≡ u) × (b ≡ v)) ⊎ ((a ≡ v) × (b ≡ u)))
  pub way : LeadsAlong whole u mid v
  pub distinct : AllPairs ◌≢◌ mid
  pub off : (w a : ℕ) → Contains mid w → has_edge part w a ≡ false

-- A witness of such a part gives one of the whole.
abbrev pub RoutedWitness : Type 0
RoutedWitness = (whole part : EdgeGraph) (u v : ℕ) (mid : List ℕ) → IsRouted whole part u v mid → HasWitness part → HasWitness whole
