use Rattle.vertex_rounds.proofs.LeastRounds.{IsRound, left_of_round}
use Rattle.vertex_rounds.proofs.first_passing.least_round.Given as goal

abbrev pub invariant-round : goal.invariant-round
invariant-round g l = IsRound l.map (goal.F-post g l.test) l.fn.v.0 l.d.0 l.best

abbrev pub decreases-round : goal.decreases-round
decreases-round g l = left_of_round l.map l.fn.v.0 l.d.0
