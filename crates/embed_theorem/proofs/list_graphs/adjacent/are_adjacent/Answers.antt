use Rattle.std.proofs.Common.{sym, arith}
use Rattle.embed_theorem.proofs.GraphLemmas.{held, not_held}
use Rattle.embed_theorem.proofs.list_graphs.adjacent.are_adjacent.Goals as goal

pub returns-then-u-len : goal.returns-then-u-len
returns-then-u-len c =
    held c.args.lists.now c.args.u c.args.v c.list.result.now c.holds.result c.requires.simple (omega (arith, c.if-u-len.true)) c.list.ensures c.holds.ensures

pub returns-else-u-len : goal.returns-else-u-len
returns-else-u-len c = sym (not_held c.args.lists.now c.args.u c.args.v c.requires.simple (omega (arith, c.if-u-len.false)))
