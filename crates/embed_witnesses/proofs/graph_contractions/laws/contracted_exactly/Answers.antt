use Rattle.embed_witnesses.proofs.Exactly.{contracted_exactly}
use Rattle.embed_witnesses.proofs.graph_contractions.laws.contracted_exactly.Goals as goal

pub returns : goal.returns
returns c = contracted_exactly
