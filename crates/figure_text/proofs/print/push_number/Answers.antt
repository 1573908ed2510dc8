-- Two digits, pushed one after the other.
use Rattle.std.proofs.Common.{rules, append_assoc}
use Rattle.itoa.proofs.Decimal.{decimal_two}
use Rattle.figure_text.proofs.print.push_number.Goals as goal

pub returns-then-number-lt100 : goal.returns-then-number-lt100
returns-then-number-lt100 c = rw (decimal_two c.args.number c.if-number-lt10.false c.if-number-lt100.true) (search (rules, append_assoc))
