use Rattle.embed_theorem.proofs.Refuted.{witnesses_refute}
use Rattle.embed_theorem.proofs.witness_law.witnesses_refute.Goals as goal

pub returns : goal.returns
returns c = witnesses_refute
