-- Many graphs in arrays, one behind another, with their maps and drawings.
use Rattle.std.specs.Prelude.{ℕ, suc, ◌+◌, ◌-◌, ◌*◌, ◌≡◌, List, length, slice_range, ℤ}
use Rattle.map_lists.specs.Cuts.{AreCuts}
use Rattle.pigale_c.specs.Embedded.{IsEmbedded}
use Rattle.pigale_c.specs.ManyMaps.{AreAnswered, AreAnsweredTo, HaveAnswers, begin_of, part_of}
use Rattle.pigale_c.specs.declared.edges.EdgeEnds.{EdgeEnds}
use Rattle.pigale_c.specs.declared.outcome.Numbers.{Numbers}
use Rattle.pigale_c.specs.declared.outcome.Outcome.{Outcome}

-- the arrays that a graph's map or witness, and its drawing, are written to
pub record EmbedRows : Type 0 where
  pub ends : List ℕ
  pub neighbours : List ℕ
  pub xs : List ℤ
  pub ys : List ℤ

abbrev pub rows_in : List ℕ → List ℕ → List ℤ → List ℤ → EmbedRows
rows_in ends neighbours xs ys = record { ends = ends; neighbours = neighbours; xs = xs; ys = ys }

-- where the ends of graph i begin: each graph has room for as many as it has vertices, and ten
abbrev pub end_of_graph : List ℕ → ℕ → ℕ
end_of_graph vertex_ends i = begin_of vertex_ends i + 10 * i

-- where the neighbours of graph i begin: each graph has room for two to an edge
abbrev pub entry_of_graph : List ℕ → ℕ → ℕ
entry_of_graph edge_ends i = 2 * begin_of edge_ends i

-- what graph i has of these arrays
abbrev pub rows_of_graph : List ℕ → List ℕ → EmbedRows → ℕ → EmbedRows
rows_of_graph vertex_ends edge_ends rows i =
    rows_in (slice_range rows.ends (end_of_graph vertex_ends i) (end_of_graph vertex_ends (suc i))) (slice_range rows.neighbours (entry_of_graph edge_ends i) (entry_of_graph edge_ends (suc i)))
    (part_of vertex_ends rows.xs i) (part_of vertex_ends rows.ys i)

-- how many vertices graph i has
abbrev pub size_of_graph : List ℕ → ℕ → ℕ
size_of_graph vertex_ends i = begin_of vertex_ends (suc i) - begin_of vertex_ends i

-- graphs that cut up all vertices and all edges, and rows of these lengths for their points, their ends and their neighbours
pub record AreGivenGraphs (vertex_ends edge_ends : List ℕ) (edges : List EdgeEnds) (points room entries : ℕ) : Type 0 where
  pub graphs : length edge_ends ≡ length vertex_ends
  pub vertices : AreCuts 0 vertex_ends points
  pub edges_cut : AreCuts 0 edge_ends (length edges)
  pub ends : room ≡ points + 10 * length vertex_ends
  pub neighbours : entries ≡ 2 * length edges

-- graphs, room for what each is to have, and an answer for each
pub record HaveGraphs (vertex_ends edge_ends : List ℕ) (edges : List EdgeEnds) (rows : EmbedRows) (row : List ℕ) (table : List Numbers) : Type 0 where
  pub given : AreGivenGraphs vertex_ends edge_ends edges (length rows.xs) (length rows.ends) (length rows.neighbours)
  pub y : length rows.ys ≡ length rows.xs
  pub answers : HaveAnswers vertex_ends row table

-- what a call for graph i alone promises
abbrev pub EmbedsEach : List ℕ → List ℕ → List EdgeEnds → ℕ → EmbedRows → EmbedRows → Outcome → Type 0
EmbedsEach vertex_ends edge_ends edges i old new =
    IsEmbedded (size_of_graph vertex_ends i) (part_of edge_ends edges i) old.ends old.neighbours old.xs old.ys new.ends new.neighbours new.xs new.ys

-- the first k graphs are embedded as calls for them alone would embed them
abbrev pub AreEmbeddedTo : List ℕ → List ℕ → List EdgeEnds → EmbedRows → EmbedRows → List ℕ → List ℕ → List Numbers → List Numbers → ℕ → Type 0
AreEmbeddedTo vertex_ends edge_ends edges old new = AreAnsweredTo EmbedRows (EmbedsEach vertex_ends edge_ends edges) (rows_of_graph vertex_ends edge_ends old) (rows_of_graph vertex_ends edge_ends new)

-- each graph is embedded as a call for it alone would embed it
abbrev pub AreEmbeddedMany : List ℕ → List ℕ → List EdgeEnds → EmbedRows → EmbedRows → List ℕ → List ℕ → List Numbers → List Numbers → ℕ → Type 0
AreEmbeddedMany vertex_ends edge_ends edges old new row row' table table' status =
    AreAnswered EmbedRows (HaveGraphs vertex_ends edge_ends edges old row table) (EmbedsEach vertex_ends edge_ends edges) (rows_of_graph vertex_ends edge_ends old) (rows_of_graph vertex_ends edge_ends new) row row' table table' (new ≡ old) status
