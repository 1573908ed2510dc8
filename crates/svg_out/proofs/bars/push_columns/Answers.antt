use Rattle.std.proofs.Common.{rules, append_assoc}
use Rattle.svg_out.specs.Svg.{column_marks}
use Rattle.svg_out.proofs.LineLemmas.{column_marks-more}
use Rattle.svg_out.proofs.bars.push_columns.Goals as goal

pub loop-i-preserved : goal.loop-i-preserved
loop-i-preserved c = search (rules, append_assoc, column_marks-more)

pub loop-i-init : goal.loop-i-init
unfolding column_marks
loop-i-init c = search rules
