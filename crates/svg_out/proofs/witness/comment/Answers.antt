use Rattle.std.proofs.Common.{rules, append_assoc}
use Rattle.svg_out.specs.Svg.{comment_start, comment_end}
use Rattle.svg_out.proofs.witness.comment.Goals as goal

pub returns : goal.returns
unfolding comment_start comment_end
returns c = let (line, is, written) = c.in_ok-print_witness.ensures.ok in (line, is, search (rules, append_assoc))
