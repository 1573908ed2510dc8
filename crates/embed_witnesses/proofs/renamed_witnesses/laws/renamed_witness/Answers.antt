use Rattle.embed_witnesses.proofs.RenamedLemmas.{renamed_witness}
use Rattle.embed_witnesses.proofs.renamed_witnesses.laws.renamed_witness.Goals as goal

pub returns : goal.returns
returns c = renamed_witness
