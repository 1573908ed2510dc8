use Rattle.std.proofs.Common.{rules, append_assoc}
use Rattle.figure_text.proofs.witness_print.push_row.Goals as goal

pub returns : goal.returns
returns c = search (rules, append_assoc)
