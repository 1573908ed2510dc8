use Rattle.embed_theorem.proofs.Expanded.{expanded_edge}
use Rattle.embed_theorem.proofs.expanded_edges.expanded_edge.Goals as goal

pub returns : goal.returns
returns c = expanded_edge
