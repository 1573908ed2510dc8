use Rattle.schnyder_wood.specs.Parents.{kind}
use Rattle.schnyder_wood.proofs.Paths.{Climbs}
use Rattle.schnyder_wood.proofs.path_lengths.path_len.Given as goal

abbrev pub invariant-loop-passed : goal.invariant-loop-passed
invariant-loop-passed l = Climbs l.wood (kind l.colour) l.fn.v.0 l.passed l.at.0
