use Rattle.std.proofs.Common.{append_assoc, rules}
use Rattle.pigale_shell.specs.Verify.{verdict_line}
use Rattle.pigale_shell.proofs.verify.verdict_line.Goals as goal

pub returns : goal.returns
unfolding verdict_line
returns c = search (rules, append_assoc)
