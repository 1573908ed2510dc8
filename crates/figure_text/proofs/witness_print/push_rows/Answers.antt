use Rattle.std.proofs.Common.{rules, append_assoc}
use Rattle.figure_text.proofs.TextLemmas.{witness_lines-first, witness_lines-more}
use Rattle.figure_text.proofs.witness_print.push_rows.Goals as goal

pub loop-p-preserved : goal.loop-p-preserved
loop-p-preserved c = rw (witness_lines-more c.args.witness.now c.loop-p.p) (search (rules, append_assoc))

pub loop-p-init : goal.loop-p-init
loop-p-init c = rw (witness_lines-first c.args.witness.now) (search rules)
