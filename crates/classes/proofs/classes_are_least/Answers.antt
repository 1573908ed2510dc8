use Rattle.classes.proofs.LawLemmas.{classes_are_least}
use Rattle.classes.proofs.classes_are_least.Goals as goal

pub returns : goal.returns
returns c = classes_are_least
