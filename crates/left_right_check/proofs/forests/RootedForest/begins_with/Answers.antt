use Rattle.std.proofs.Common.{sym, ◌∙◌, arith, rules}
use Rattle.left_right_check.proofs.TieLemmas.{branch_is}
use Rattle.left_right_check.proofs.forests.RootedForest.begins_with.Goals as goal

pub returns : goal.returns
returns c = λ ends. branch_is c.args.self.now.parents.now c.args.self.now.depths.now c.args.vertex c.args.end c.args.edge.from c.args.edge.to (omega (arith, c.if-low-high.false, c.entry-low.ensures, c.entry-high.ensures)) (search rules) (sym c.entry.ensures ∙ c.if-entry-vertex.false)
