use Rattle.embed_graph.proofs.Figured.{exactly}
use Rattle.embed_graph.proofs.embed_laws.drawn_exactly.Goals as goal

pub returns : goal.returns
returns c = exactly c.planar_exactly.ensures c.some_schnyder_figure.ensures
