use Rattle.classes.proofs.Swap.{swap_orbits}
use Rattle.pg_perm.proofs.swap_law.one_swap.Goals as goal

pub returns : goal.returns
returns c = swap_orbits
