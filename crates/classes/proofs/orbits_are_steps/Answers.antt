use Rattle.classes.proofs.LawLemmas.{orbits_are_steps}
use Rattle.classes.proofs.orbits_are_steps.Goals as goal

pub returns : goal.returns
returns c = orbits_are_steps
