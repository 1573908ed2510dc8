use Rattle.std.proofs.Common.{arith}
use Rattle.graphs.proofs.BitLemmas.{pair_count-few, body_length-bounds}
use Rattle.graphs.proofs.bits.spare_bits.Goals as goal

pub overflow_mul-result : goal.overflow_mul-result
overflow_mul-result c = let few = pair_count-few c.args.n c.requires in let bounds = body_length-bounds c.args.n in omega arith

pub overflow_sub-result : goal.overflow_sub-result
overflow_sub-result c = let bounds = body_length-bounds c.args.n in omega arith

pub returns-clause-few : goal.returns-clause-few
returns-clause-few c = let bounds = body_length-bounds c.args.n in omega arith
