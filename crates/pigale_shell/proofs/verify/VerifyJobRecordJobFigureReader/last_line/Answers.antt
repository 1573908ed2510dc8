-- The words of each ending.
use Rattle.std.proofs.Common.{rules}
use Rattle.pigale_shell.specs.Text.{last_line}
use Rattle.pigale_shell.specs.Verify.{verify_last_line}
use Rattle.pigale_shell.proofs.verify.VerifyJobRecordJobFigureReader.last_line.Goals as goal

pub returns-in-Well : goal.returns-in-Well
unfolding verify_last_line last_line
returns-in-Well c = rw c.in-Well.is c.end_line.ensures

pub returns-in-BadLine : goal.returns-in-BadLine
unfolding verify_last_line
returns-in-BadLine c = search rules

pub returns-in-Limit : goal.returns-in-Limit
unfolding verify_last_line
returns-in-Limit c = search rules

pub returns-in-EndInFigure : goal.returns-in-EndInFigure
unfolding verify_last_line
returns-in-EndInFigure c = search rules

pub returns-in-TooLong : goal.returns-in-TooLong
unfolding verify_last_line
returns-in-TooLong c = search rules
