use Rattle.embed_theorem.proofs.Induction.{planar_exactly}
use Rattle.embed_theorem.proofs.embeddings.planar_exactly.Goals as goal

pub returns : goal.returns
returns c = planar_exactly
