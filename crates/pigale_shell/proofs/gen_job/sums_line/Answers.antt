use Rattle.std.proofs.Common.{append_assoc, rules}
use Rattle.pigale_shell.specs.Made.{sums_line}
use Rattle.pigale_shell.proofs.gen_job.sums_line.Goals as goal

pub returns : goal.returns
unfolding sums_line
returns c = search (rules, append_assoc)
