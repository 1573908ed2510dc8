use Rattle.std.proofs.Common.{rules}
use Rattle.pigale_shell.specs.Text.{last_line}
use Rattle.pigale_shell.proofs.output_lines.last_line.Goals as goal

pub returns-in-EndInRecord : goal.returns-in-EndInRecord
unfolding last_line
returns-in-EndInRecord c = search rules

pub returns-in-BadCount : goal.returns-in-BadCount
unfolding last_line
returns-in-BadCount c = search rules

pub returns-in-TooLong : goal.returns-in-TooLong
unfolding last_line
returns-in-TooLong c = search rules
