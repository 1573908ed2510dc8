-- Figures of all graphs, and of which kind.
use Rattle.std.specs.Prelude.{◌≤◌, ◌↔◌}
use Rattle.map_lists.specs.Lists.{Lists}
use Rattle.pg_plane.specs.declared.figures.GridFigure.{GridFigure}
use Rattle.graphs.specs.Graphs.{EdgeGraph, IsGraph}
use Rattle.embed_contraction.specs.Traces.{HasWitness}
use Rattle.embed_graph.specs.Figures.{IsDrawnMap, IsEmbedFigure}
use Rattle.embed_graph.specs.declared.embed_figures.embedder.EmbedFigure.{EmbedFigure}

-- Each graph with at least three vertices has a figure: a map as it is drawn, or a witness.
abbrev pub SomeEmbedFigure : Type 0
SomeEmbedFigure = (graph : EdgeGraph) → IsGraph graph → 3 ≤ graph.n → (figure : EmbedFigure) × IsEmbedFigure graph figure

-- It is drawn exactly where it has no witness.
abbrev pub DrawnExactly : Type 0
DrawnExactly =
    (graph : EdgeGraph) → IsGraph graph → 3 ≤ graph.n → ((lists : Lists) × (figure : GridFigure) × IsDrawnMap graph lists figure) ↔ (¬ HasWitness graph)
