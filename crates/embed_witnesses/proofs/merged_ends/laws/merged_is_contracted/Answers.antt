use Rattle.embed_witnesses.proofs.MergedLemmas.{merged_is_contracted}
use Rattle.embed_witnesses.proofs.merged_ends.laws.merged_is_contracted.Goals as goal

pub returns : goal.returns
returns c = merged_is_contracted
