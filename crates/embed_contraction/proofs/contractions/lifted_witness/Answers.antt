use Rattle.embed_contraction.proofs.Lifted.{lifted_witness}
use Rattle.embed_contraction.proofs.contractions.lifted_witness.Goals as goal

pub returns : goal.returns
returns c = lifted_witness
