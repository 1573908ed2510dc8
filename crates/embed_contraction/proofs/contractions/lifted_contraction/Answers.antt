use Rattle.embed_contraction.proofs.Lifted.{lifted_contraction}
use Rattle.embed_contraction.proofs.contractions.lifted_contraction.Goals as goal

pub returns : goal.returns
returns c = lifted_contraction
