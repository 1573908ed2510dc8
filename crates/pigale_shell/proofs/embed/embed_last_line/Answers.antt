-- The words of each ending.
use Rattle.std.proofs.Common.{rules}
use Rattle.pigale_shell.specs.Text.{last_line}
use Rattle.pigale_shell.specs.EmbedText.{embed_last_line}
use Rattle.pigale_shell.proofs.embed.embed_last_line.Goals as goal

pub returns-in-Well : goal.returns-in-Well
unfolding embed_last_line last_line
returns-in-Well c = rw c.in-Well.is c.end_line.ensures

pub returns-in-BadLine : goal.returns-in-BadLine
unfolding embed_last_line
returns-in-BadLine c = search rules

pub returns-in-Limit : goal.returns-in-Limit
unfolding embed_last_line
returns-in-Limit c = search rules

pub returns-in-TooLong : goal.returns-in-TooLong
unfolding embed_last_line
returns-in-TooLong c = search rules
