-- A figure that a wrong body would give: the clause refuses it.
use Rattle.std.proofs.Common.{[], ◌∷◌, refl, arith}
use Rattle.pg_plane.specs.declared.figures.GridFigure.{GridFigure}
use Rattle.embed_graph.specs.Figures.{IsEmbedFigure}
use Rattle.embed_graph.specs.declared.embed_figures.embedder.EmbedFigure.TheVariants.{Drawn}

-- three vertices without edges are drawn for a graph with an edge
map_of_another_graph : (figure : GridFigure) → ¬ IsEmbedFigure (record { n = 3; edges = (0, 1) ∷ [] }) (Drawn ([] ∷ [] ∷ [] ∷ []) figure)
map_of_another_graph figure w = let (l, (i, less, e)) = w.map.edges.all 0 1 refl in omega arith
