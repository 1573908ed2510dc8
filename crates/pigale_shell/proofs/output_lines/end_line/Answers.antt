use Rattle.std.proofs.Common.{rules, append_assoc}
use Rattle.pigale_shell.specs.Text.{last_line, end_line}
use Rattle.pigale_shell.proofs.output_lines.end_line.Goals as goal

pub returns : goal.returns
unfolding last_line end_line
returns c = search (rules, append_assoc)
