use Rattle.std.proofs.Common.{rules, append_assoc}
use Rattle.pigale_shell.specs.Text.{counts_line}
use Rattle.pigale_shell.proofs.output_lines.count_line.Goals as goal

pub returns : goal.returns
unfolding counts_line
returns c = search (rules, append_assoc)
