use Rattle.pigale_c.proofs.ArrayLemmas.{AreMade}
use Rattle.pigale_c.proofs.map_arrays.points_of.Given as goal

abbrev pub invariant-loop-k : goal.invariant-loop-k
invariant-loop-k l = AreMade l.x l.y l.k l.points
