use Rattle.pigale_shell.proofs.PartLemmas.{texts_joined}
use Rattle.pigale_shell.proofs.laws.texts_join.Goals as goal

pub returns : goal.returns
returns c = texts_joined
