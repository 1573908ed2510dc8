use Rattle.embed_graph.proofs.Figured.{some_figure}
use Rattle.embed_graph.proofs.embed_laws.some_embed_figure.Goals as goal

pub returns : goal.returns
returns c = some_figure c.map_or_witness.ensures c.some_schnyder_figure.ensures
