use Rattle.std.proofs.Common.{arith, rules}
use Rattle.left_right_check.proofs.CompleteGraph.{k5_by_bytes}
use Rattle.left_right_check.proofs.complete_five.is_k5.Goals as goal

pub returns : goal.returns
returns c = λ last. k5_by_bytes c.args.graph.now c.body-bits.result.now (omega (arith, c.n.ensures.count, c.if-n-ne5.false)) c.body-bits.ensures.edges (search rules) (search rules) (search rules)
