use Rattle.std.proofs.Common.{rules, append_assoc}
use Rattle.figure_text.specs.Text.{witness_first_line}
use Rattle.figure_text.proofs.witness_print.push_witness.Goals as goal

pub returns : goal.returns
unfolding witness_first_line
returns c = let (line, written, is) = c.in_ok-write_line.ensures.ok in (line, is, search (rules, append_assoc))
