use Rattle.embed_theorem.proofs.Induction.{map_or_witness}
use Rattle.embed_theorem.proofs.embeddings.map_or_witness.Goals as goal

pub returns : goal.returns
returns c = map_or_witness
