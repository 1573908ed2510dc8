use Rattle.pigale_shell.proofs.PartLemmas.{whole_joined}
use Rattle.pigale_shell.proofs.laws.whole_is_part.Goals as goal

pub returns : goal.returns
returns c = whole_joined
