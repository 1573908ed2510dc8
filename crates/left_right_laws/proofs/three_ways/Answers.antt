use Rattle.left_right_laws.proofs.ThreeWays.{three_ways}
use Rattle.left_right_laws.proofs.three_ways.Goals as goal

pub returns : goal.returns
returns c = three_ways
