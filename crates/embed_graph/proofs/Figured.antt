-- From the theorem on graphs and the drawings of maps.
use Rattle.std.proofs.Common.{◌≡◌, ◌≢◌, ℕ, ◌<◌, true, ◌∙◌, inl, inr, arith}
use Rattle.std.proofs.lemmas.Bool.{cases_lt}
use Rattle.graphs.specs.Graphs.{EdgeGraph, IsGraph, has_edge}
use Rattle.graphs.proofs.EdgeLemmas.{joined_is, has_edge-turned}
use Rattle.embed_theorem.specs.Embedding.{IsProper, MapOrWitness, PlanarExactly}
use Rattle.grid_figures.specs.SchnyderFiguresLaws.{SomeSchnyderFigure}
use Rattle.embed_graph.specs.declared.embed_figures.embedder.EmbedFigure.TheVariants.{Drawn, NotPlanar}
use Rattle.embed_graph.specs.Laws.{SomeEmbedFigure, DrawnExactly}

-- the ends of an edge are two vertices
ends : (graph : EdgeGraph) (u v : ℕ) → IsGraph graph → has_edge graph u v ≡ true → (u < graph.n) × (u ≢ v)
ends graph u v is h = elim (cases_lt u v) [
  | inl l ↦
      let c = joined_is graph.n u v graph.edges is.edges (omega (arith, l)) h in
      (omega (arith, c.1, c.2), λ e. omega (arith, e, l))
  | inr l ↦
      let c = joined_is graph.n v u graph.edges is.edges l (has_edge-turned graph v u ∙ h) in
      (omega (arith, c.2), λ e. let m = c.1 in omega (arith, e, m))
]

-- a graph is one of the theorem's
pub proper : (graph : EdgeGraph) → IsGraph graph → 0 < graph.n → IsProper graph
proper graph is some = record { some = some; within = λ u v h. (ends graph u v is h).0; two = λ u v h. (ends graph u v is h).1 }

pub some_figure : MapOrWitness → SomeSchnyderFigure → SomeEmbedFigure
some_figure either draws graph is some = elim (either graph (proper graph is (omega (arith, some)))) [
  | inl w ↦ (NotPlanar (record { kind = w.0; branch = w.1; paths = w.2 }), w.3)
  | inr m ↦
      let f = draws m.0 m.1.simple m.1.plane (omega (arith, some, m.1.edges.vertices)) in
      (Drawn m.0 f.0, record { map = m.1; valid = f.1 })
]

pub exactly : PlanarExactly → SomeSchnyderFigure → DrawnExactly
exactly planar draws graph is some = (
  λ d. (planar graph (proper graph is (omega (arith, some)))).0 (d.0, d.2.map),
  λ none.
      let m = (planar graph (proper graph is (omega (arith, some)))).1 none in
      let f = draws m.0 m.1.simple m.1.plane (omega (arith, some, m.1.edges.vertices)) in
      (m.0, f.0, record { map = m.1; valid = f.1 }),
)
