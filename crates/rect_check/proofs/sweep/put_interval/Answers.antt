use Rattle.std.proofs.Common.{arith}
use Rattle.rect_check.proofs.RunLemmas.{IsRunPut-some, IsRunPut-none}
use Rattle.rect_check.proofs.sweep.put_interval.Goals as goal

pub returns-then-low-high-clause-put : goal.returns-then-low-high-clause-put
returns-then-low-high-clause-put c = IsRunPut-some c.args.last.now c.args.until.now c.args.run.low c.args.run.high c.args.run.entry c.if-low-high.true c.requires.within c.requires.size

pub returns-else-low-high-clause-put : goal.returns-else-low-high-clause-put
returns-else-low-high-clause-put c = IsRunPut-none c.args.last.now c.args.until.now c.args.run.low c.args.run.high c.args.run.entry (omega (arith, c.if-low-high.false)) c.requires.order
