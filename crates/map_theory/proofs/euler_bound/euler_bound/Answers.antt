use Rattle.map_theory.proofs.DartPermutations.{euler_bound_map}
use Rattle.map_theory.proofs.euler_bound.euler_bound.Goals as goal

pub returns : goal.returns
returns c = λ lists simple. euler_bound_map lists simple
