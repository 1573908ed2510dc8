-- Graphs in arrays, with their maps and drawings, or witnesses that there are none.
use Rattle.std.specs.Prelude.{ℕ, ◌<◌, ◌≤◌, ◌≡◌, ◌⊎◌, List, length, map, ℤ}
use Rattle.map_lists.specs.Cuts.{joined, ends_from}
use Rattle.map_lists.specs.Lists.{Lists}
use Rattle.map_lists.specs.declared.ids.VertexId.{VertexId}
use Rattle.pg_plane.specs.declared.figures.GridFigure.{GridFigure}
use Rattle.graphs.specs.Graphs.{EdgeGraph}
use Rattle.embed_theorem.specs.Expanded.{IsMapOf}
use Rattle.kuratowski.specs.Witnesses.{IsWitness}
use Rattle.kuratowski.specs.declared.witness.Kind.{Kind}
use Rattle.embed_graph.specs.Figures.{IsDrawnMap}
use Rattle.refusals.specs.declared.conditions.Refusal.{Refusal}
use Rattle.refusals.specs.declared.conditions.Refusal.TheVariants.{Small}
use Rattle.pigale_c.specs.Arrays.{points_in}
use Rattle.pigale_c.specs.EdgeLists.{edge_at}
use Rattle.pigale_c.specs.EdgeFailures.{AreFew, FailsOnEdges, IsGraphOf}
use Rattle.pigale_c.specs.Written.{AreWritten, HasNoRoom}
use Rattle.pigale_c.specs.declared.edges.EdgeEnds.{EdgeEnds}
use Rattle.pigale_c.specs.declared.outcome.Outcome.{Outcome}
use Rattle.pigale_c.specs.declared.outcome.Outcome.TheVariants.{Served, Failed, NotPlanar}
use Rattle.pigale_c.specs.declared.outcome.Failure.TheVariants.{BadArgument, NoMemory}

-- the graph on n vertices with the edges of an array
abbrev pub graph_in : ℕ → List EdgeEnds → EdgeGraph
graph_in n edges = record { n = n; edges = map edge_at edges }

-- the sizes of a graph, and room for two coordinates of each vertex
pub record IsGivenGraph (n : ℕ) (edges : List EdgeEnds) (xs ys : List ℤ) : Type 0 where
  pub sizes : AreFew n edges
  pub x : length xs ≡ n
  pub y : length ys ≡ n

-- this holds of the graph of an array of edges
abbrev pub OfGraph : ℕ → List EdgeEnds → (EdgeGraph → Type 0) → Type 0
OfGraph n edges P = (graph : EdgeGraph) × IsGraphOf n edges graph × P graph

-- At the fronts of two arrays stand the ends and the neighbours of a map of the graph.
pub record IsMapThere (graph : EdgeGraph) (ends neighbours ends' neighbours' : List ℕ) : Type 0 where
  pub lists : Lists
  pub map : IsMapOf lists graph
  pub written : AreWritten (ends_from 0 lists) (joined lists) ends neighbours ends' neighbours'

-- The same of a map as it is drawn, and two more arrays have the points of its drawing.
pub record IsDrawingThere (graph : EdgeGraph) (ends neighbours ends' neighbours' : List ℕ) (xs' ys' : List ℤ) : Type 0 where
  pub lists : Lists
  pub figure : GridFigure
  pub drawn : IsDrawnMap graph lists figure
  pub written : AreWritten (ends_from 0 lists) (joined lists) ends neighbours ends' neighbours'
  pub points_are : points_in xs' ys' ≡ figure.points

-- the number of a vertex
abbrev pub number : VertexId → ℕ
number v = v.0

-- At the fronts of two arrays stand the ends and the vertices of the paths of a witness.
pub record IsWitnessThere (graph : EdgeGraph) (kind : Kind) (ends vertices ends' vertices' : List ℕ) : Type 0 where
  pub branch : List VertexId
  pub paths : List (List VertexId)
  pub witness : IsWitness graph kind branch paths
  pub written : AreWritten (ends_from 0 paths) (map number (joined paths)) ends vertices ends' vertices'

-- The paths of a witness of this kind stand at the fronts of two arrays; or they have no room for it, or memory was wanting, and they are as they were.
abbrev pub IsWitnessPut : Kind → List (List VertexId) → List ℕ → List ℕ → List ℕ → List ℕ → Outcome → Type 0
IsWitnessPut kind paths ends vertices ends' vertices' (NotPlanar told) = (told ≡ kind) × AreWritten (ends_from 0 paths) (map number (joined paths)) ends vertices ends' vertices'
IsWitnessPut kind paths ends vertices ends' vertices' (Failed BadArgument) = HasNoRoom (ends_from 0 paths) (map number (joined paths)) ends vertices × (ends' ≡ ends) × (vertices' ≡ vertices)
IsWitnessPut kind paths ends vertices ends' vertices' (Failed NoMemory) = (ends' ≡ ends) × (vertices' ≡ vertices)
IsWitnessPut kind paths ends vertices ends' vertices' outcome = ⊥

-- two arrays are too short for a map of the graph, or for the paths of a witness
abbrev pub HasNoRoomFor : EdgeGraph → List ℕ → List ℕ → Type 0
HasNoRoomFor graph ends neighbours =
    ((lists : Lists) × IsMapOf lists graph × HasNoRoom (ends_from 0 lists) (joined lists) ends neighbours)
    ⊎ ((kind : Kind) × (branch : List VertexId) × (paths : List (List VertexId)) × IsWitness graph kind branch paths × HasNoRoom (ends_from 0 paths) (map number (joined paths)) ends neighbours)

-- a graph with less than three vertices is not served
abbrev pub IsSmall : ℕ → Refusal → Type 0
IsSmall n refusal = (n < 3) × (refusal ≡ Small n)

-- The arrays have a map of the graph with its drawing, or a witness that there is none; or the call failed, and they are as they were.
abbrev pub IsEmbedded : ℕ → List EdgeEnds → List ℕ → List ℕ → List ℤ → List ℤ → List ℕ → List ℕ → List ℤ → List ℤ → Outcome → Type 0
IsEmbedded n edges ends neighbours xs ys ends' neighbours' xs' ys' Served =
    IsGivenGraph n edges xs ys × (3 ≤ n) × OfGraph n edges (λ graph. IsDrawingThere graph ends neighbours ends' neighbours' xs' ys')
IsEmbedded n edges ends neighbours xs ys ends' neighbours' xs' ys' (NotPlanar kind) =
    IsGivenGraph n edges xs ys × (3 ≤ n) × OfGraph n edges (λ graph. IsWitnessThere graph kind ends neighbours ends' neighbours') × (xs' ≡ xs) × (ys' ≡ ys)
IsEmbedded n edges ends neighbours xs ys ends' neighbours' xs' ys' (Failed BadArgument) =
    ((¬ IsGivenGraph n edges xs ys) ⊎ OfGraph n edges (λ graph. HasNoRoomFor graph ends neighbours)) × (ends' ≡ ends) × (neighbours' ≡ neighbours) × (xs' ≡ xs) × (ys' ≡ ys)
IsEmbedded n edges ends neighbours xs ys ends' neighbours' xs' ys' (Failed failure) =
    FailsOnEdges (IsGivenGraph n edges xs ys) n edges (IsSmall n) failure × (ends' ≡ ends) × (neighbours' ≡ neighbours) × (xs' ≡ xs) × (ys' ≡ ys)
IsEmbedded n edges ends neighbours xs ys ends' neighbours' xs' ys' outcome = ⊥

-- The arrays have a map of the graph, or a witness that there is none; or the call failed, and they are as they were.
abbrev pub IsMapped : ℕ → List EdgeEnds → List ℕ → List ℕ → List ℕ → List ℕ → Outcome → Type 0
IsMapped n edges ends neighbours ends' neighbours' Served = AreFew n edges × (3 ≤ n) × OfGraph n edges (λ graph. IsMapThere graph ends neighbours ends' neighbours')
IsMapped n edges ends neighbours ends' neighbours' (NotPlanar kind) =
    AreFew n edges × (3 ≤ n) × OfGraph n edges (λ graph. IsWitnessThere graph kind ends neighbours ends' neighbours')
IsMapped n edges ends neighbours ends' neighbours' (Failed BadArgument) =
    ((¬ AreFew n edges) ⊎ OfGraph n edges (λ graph. HasNoRoomFor graph ends neighbours)) × (ends' ≡ ends) × (neighbours' ≡ neighbours)
IsMapped n edges ends neighbours ends' neighbours' (Failed failure) =
    FailsOnEdges (AreFew n edges) n edges (IsSmall n) failure × (ends' ≡ ends) × (neighbours' ≡ neighbours)
IsMapped n edges ends neighbours ends' neighbours' outcome = ⊥

-- The graph has a map of genus zero, or a witness that it has none; or the call failed.
abbrev pub IsTested : ℕ → List EdgeEnds → Outcome → Type 0
IsTested n edges Served = AreFew n edges × (3 ≤ n) × OfGraph n edges (λ graph. (lists : Lists) × IsMapOf lists graph)
IsTested n edges (NotPlanar kind) =
    AreFew n edges × (3 ≤ n) × OfGraph n edges (λ graph. (branch : List VertexId) × (paths : List (List VertexId)) × IsWitness graph kind branch paths)
IsTested n edges (Failed failure) = FailsOnEdges (AreFew n edges) n edges (IsSmall n) failure
IsTested n edges outcome = ⊥
