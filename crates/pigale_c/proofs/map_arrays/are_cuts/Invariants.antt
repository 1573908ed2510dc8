use Rattle.std.proofs.Common.{drop}
use Rattle.pigale_c.proofs.ArrayLemmas.{SameCuts}
use Rattle.pigale_c.proofs.map_arrays.are_cuts.Given as goal

abbrev pub invariant-loop-end : goal.invariant-loop-end
invariant-loop-end l = SameCuts l.ends l.total l.from (drop l.end-index l.ends)
