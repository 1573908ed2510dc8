use Rattle.embed_contraction.proofs.Routed.{routed_witness}
use Rattle.embed_contraction.proofs.contractions.routed_witness.Goals as goal

pub returns : goal.returns
returns c = routed_witness
