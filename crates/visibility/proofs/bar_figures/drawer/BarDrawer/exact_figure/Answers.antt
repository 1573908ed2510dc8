use Rattle.graph_search.proofs.ForestLemmas.{IsAdjacency-simple}
use Rattle.visibility.proofs.bar_figures.drawer.BarDrawer.exact_figure.Goals as goal

pub list_cut_vertex-requires : goal.list_cut_vertex-requires
list_cut_vertex-requires c = record { adjacency = IsAdjacency-simple c.args.lists.now c.in_ok-count.ensures.simple }
