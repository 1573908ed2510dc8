use Rattle.std.proofs.Common.{rules, append_assoc}
use Rattle.svg_out.specs.Svg.{bar_marks}
use Rattle.svg_out.proofs.LineLemmas.{bar_marks-more}
use Rattle.svg_out.proofs.bars.push_bars.Goals as goal

pub loop-v-preserved : goal.loop-v-preserved
loop-v-preserved c = search (rules, append_assoc, bar_marks-more)

pub loop-v-init : goal.loop-v-init
unfolding bar_marks
loop-v-init c = search rules
