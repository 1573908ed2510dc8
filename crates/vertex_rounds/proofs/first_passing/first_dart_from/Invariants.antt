use Rattle.vertex_rounds.proofs.FirstLemmas.{NoneBelow}
use Rattle.vertex_rounds.proofs.first_passing.first_dart_from.Given as goal

abbrev pub invariant-loop-v : goal.invariant-loop-v
invariant-loop-v g l = NoneBelow l.map (goal.F-post g l.test) l.fn.from l.v
