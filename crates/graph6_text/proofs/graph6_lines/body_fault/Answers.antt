use Rattle.std.proofs.Common.{arith}
use Rattle.graphs.proofs.BitLemmas.{pair_count-few, body_length-bounds}
use Rattle.graph6_text.proofs.graph6_lines.body_fault.Goals as goal

pub overflow_add-end : goal.overflow_add-end
overflow_add-end c =
    let few = pair_count-few c.args.n c.requires.few in
    let bounds = body_length-bounds c.args.n in
    omega arith
