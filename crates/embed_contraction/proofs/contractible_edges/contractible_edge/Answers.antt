use Rattle.embed_contraction.proofs.Growth.{contractible_edge}
use Rattle.embed_contraction.proofs.contractible_edges.contractible_edge.Goals as goal

pub returns : goal.returns
returns c = contractible_edge
