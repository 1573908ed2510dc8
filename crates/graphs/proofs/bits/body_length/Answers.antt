use Rattle.std.proofs.Common.{arith}
use Rattle.graphs.specs.Bits.{body_length}
use Rattle.graphs.proofs.BitLemmas.{pair_count-few}
use Rattle.graphs.proofs.bits.body_length.Goals as goal

pub overflow_add-result : goal.overflow_add-result
overflow_add-result c = let few = pair_count-few c.args.n c.requires in omega arith

pub returns : goal.returns
unfolding body_length
returns c = omega arith
