use Rattle.std.proofs.Common.{append_assoc, rules}
use Rattle.pigale_shell.specs.Verify.{numbers_line}
use Rattle.pigale_shell.proofs.verify.numbers_line.Goals as goal

pub returns : goal.returns
unfolding numbers_line
returns c = search (rules, append_assoc)
