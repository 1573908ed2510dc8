use Rattle.embed_witnesses.proofs.Kept.{plain_or_kept}
use Rattle.embed_witnesses.proofs.kept_witnesses.plain_or_kept.Goals as goal

pub returns : goal.returns
returns c = plain_or_kept
