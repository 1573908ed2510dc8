-- The figure of a graph: a map of it as it is drawn, or a witness that there is none.
use Rattle.map_lists.specs.Lists.{Lists}
use Rattle.pg_plane.specs.declared.figures.GridFigure.{GridFigure}
use Rattle.graphs.specs.Graphs.{EdgeGraph}
use Rattle.kuratowski.specs.Witnesses.{IsWitness}
use Rattle.embed_theorem.specs.Expanded.{IsMapOf}
use Rattle.grid_figures.specs.SchnyderFiguresFigures.{IsSchnyderFigure}
use Rattle.embed_graph.specs.declared.embed_figures.embedder.EmbedFigure.{EmbedFigure}
use Rattle.embed_graph.specs.declared.embed_figures.embedder.EmbedFigure.TheVariants.{Drawn, NotPlanar}

-- a map of genus zero with exactly the edges of the graph, and a figure that is valid for it
pub record IsDrawnMap (graph : EdgeGraph) (lists : Lists) (figure : GridFigure) : Type 0 where
  pub map : IsMapOf lists graph
  pub valid : IsSchnyderFigure lists figure

-- a map as in `IsDrawnMap` with its figure, or a witness that is accepted for the graph
abbrev pub IsEmbedFigure : EdgeGraph → EmbedFigure → Type 0
IsEmbedFigure graph (Drawn lists figure) = IsDrawnMap graph lists figure
IsEmbedFigure graph (NotPlanar witness) = IsWitness graph witness.kind witness.branch witness.paths
