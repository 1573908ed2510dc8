use Rattle.std.proofs.Common.{rules, append_assoc}
use Rattle.pigale_shell.specs.Text.{refusal_line}
use Rattle.pigale_shell.proofs.output_lines.refusal_line.Goals as goal

pub returns : goal.returns
unfolding refusal_line
returns c = search (rules, append_assoc)
