use Rattle.vertex_rounds.proofs.LeastRounds.{left_of_round}
use Rattle.vertex_rounds.proofs.OnceLemmas.{IsOnceRound}
use Rattle.vertex_rounds.proofs.one_turn.passes_once.Given as goal

abbrev pub invariant-round : goal.invariant-round
invariant-round g l = IsOnceRound l.map (goal.F-post g l.test) l.fn.v.0 l.d.0 l.passed

abbrev pub decreases-round : goal.decreases-round
decreases-round g l = left_of_round l.map l.fn.v.0 l.d.0
