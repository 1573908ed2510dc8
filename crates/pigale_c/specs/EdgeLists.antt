-- The neighbours of each vertex as an array of edges has them.
use Rattle.std.specs.Prelude.{ℕ, ◌+◌, ◌*◌, ◌/◌, ◌%◌, ◌<◌, ◌≤◌, ◌≡◌, ◌≢◌, ◌⊎◌, ◌↔◌, Bool, ◌&&◌, ◌||◌, ◌==◌, nat_lt, if◌then◌else◌, List, [], ◌∷◌, length, map, take, sum_by, count_by, All, Contains, slice_index_or}
use Rattle.std.specs.List.{HoldsAt}
use Rattle.map_lists.specs.Cuts.{AreCuts}
use Rattle.map_lists.specs.Lists.{Lists}
use Rattle.map_theory.specs.Maps.{HasDart}
use Rattle.graphs.specs.Graphs.{Edge, ComesBefore}
use Rattle.pigale_c.specs.declared.edges.EdgeEnds.{EdgeEnds}
use Rattle.pigale_c.specs.declared.outcome.EdgeFault.{EdgeFault}
use Rattle.pigale_c.specs.declared.outcome.EdgeFault.TheVariants.{NoVertex, SelfLoop, Twice}

-- an edge joins v and u, either way round
abbrev pub IsBetween : ℕ → ℕ → EdgeEnds → Type 0
IsBetween v u e = ((e.a ≡ v) × (e.b ≡ u)) ⊎ ((e.a ≡ u) × (e.b ≡ v))

-- some edge of an array joins v and u
abbrev pub Joins : List EdgeEnds → ℕ → ℕ → Type 0
Joins edges v u = (e : EdgeEnds) × Contains edges e × IsBetween v u e

-- The lists have n vertices, and the neighbours that the edges give each of them, and an entry for each end of an edge.
pub record IsEdgeLists (n : ℕ) (edges : List EdgeEnds) (lists : Lists) : Type 0 where
  pub vertices : length lists ≡ n
  pub darts : (v u : ℕ) → HasDart lists v u ↔ Joins edges v u
  pub entries : sum_by length lists ≡ 2 * length edges

-- a dart as one number
abbrev pub dart_key : ℕ → ℕ → ℕ
dart_key tail head = tail * 65536 + head

-- both darts of each edge, as numbers
abbrev pub darts_in : List EdgeEnds → List ℕ
darts_in [] = []
darts_in (e ∷ edges) = dart_key e.a e.b ∷ dart_key e.b e.a ∷ darts_in edges

-- the darts are cut up at these ends, and those of each piece have its number as their tail
pub record AreRuns (n : ℕ) (darts ends : List ℕ) : Type 0 where
  pub vertices : length ends ≡ n
  pub cuts : AreCuts 0 ends (length darts)
  pub tails : (v p : ℕ) → v < n → slice_index_or (0 ∷ ends) v 0 ≤ p → p < slice_index_or ends v 0 → slice_index_or darts p 0 / 65536 ≡ v

-- edges between two of n vertices each
abbrev pub AreProper : ℕ → List EdgeEnds → Type 0
AreProper n edges = All (λ e. (e.a < n) × (e.b < n) × (e.a ≢ e.b)) edges

-- The first edge with a fault of its own, or two that join the same vertices.
abbrev pub IsEdgeFault : ℕ → List EdgeEnds → EdgeFault → Type 0
IsEdgeFault n edges (NoVertex i) = (i < length edges) × AreProper n (take i edges) × HoldsAt (λ e. (n ≤ e.a) ⊎ (n ≤ e.b)) edges i
IsEdgeFault n edges (SelfLoop i) = (i < length edges) × AreProper n (take i edges) × HoldsAt (λ e. e.a ≡ e.b) edges i
IsEdgeFault n edges (Twice i j) =
    (i < j) × (j < length edges) × (v : ℕ) × (u : ℕ) × HoldsAt (IsBetween v u) edges i × HoldsAt (IsBetween v u) edges j

-- an edge joins v and u, as a test
abbrev pub is_between : ℕ → ℕ → EdgeEnds → Bool
is_between v u e = ((e.a == v) && (e.b == u)) || ((e.a == u) && (e.b == v))

-- how many edges join v and u
abbrev pub times_joined : ℕ → ℕ → List EdgeEnds → ℕ
times_joined v u edges = count_by (is_between v u) edges

-- an edge of an array as one of a graph
abbrev pub edge_at : EdgeEnds → Edge
edge_at e = (e.a, e.b)

-- the edges of which the darts from the lesser end stand in a list
abbrev pub rising_of : List ℕ → List EdgeEnds
rising_of [] = []
rising_of (k ∷ darts) = if nat_lt (k / 65536) (k % 65536) then record { a = k / 65536; b = k % 65536 } ∷ rising_of darts else rising_of darts

-- an edge between n vertices, by its lesser end first
abbrev pub IsEdge : ℕ → EdgeEnds → Type 0
IsEdge n e = (e.a < e.b) × (e.b < n)

-- edges between n vertices, each before the next, and the first behind `last`
abbrev pub RiseFrom : ℕ → EdgeEnds → List EdgeEnds → Type 0
RiseFrom n last [] = Unit {0}
RiseFrom n last (e ∷ edges) = (IsEdge n e × ComesBefore (edge_at last) (edge_at e)) × RiseFrom n e edges

-- two edges by the same ends, in the same order
abbrev pub SameEnds : EdgeEnds → EdgeEnds → Type 0
SameEnds e f = (e.a ≡ f.a) × (e.b ≡ f.b)

-- no edge comes before an earlier one
abbrev pub NeverFalls : List EdgeEnds → Type 0
NeverFalls [] = Unit {0}
NeverFalls (e ∷ edges) = All (λ f. dart_key e.a e.b ≤ dart_key f.a f.b) edges × NeverFalls edges

-- The sorted edges are those of the array, with the lesser end first, as often as there and in order by it and then by the greater.
pub record AreEdgesOf (n : ℕ) (edges sorted : List EdgeEnds) : Type 0 where
  pub same : (a b : ℕ) → Contains (map edge_at sorted) (a, b) ↔ ((a < b) × Joins edges a b)
  pub times : (a b : ℕ) → a < b → b < n → times_joined a b sorted ≡ times_joined a b edges
  pub ends : All (IsEdge n) sorted
  pub order : NeverFalls sorted
  pub count : length sorted ≡ length edges
