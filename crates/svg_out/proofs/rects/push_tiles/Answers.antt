use Rattle.std.proofs.Common.{rules, append_assoc}
use Rattle.svg_out.specs.Svg.{tile, tiles}
use Rattle.svg_out.proofs.LineLemmas.{tiles-more}
use Rattle.svg_out.proofs.rects.push_tiles.Goals as goal

pub loop-v-preserved : goal.loop-v-preserved
unfolding tile
loop-v-preserved c = search (rules, append_assoc, tiles-more)

pub loop-v-init : goal.loop-v-init
unfolding tiles
loop-v-init c = search rules
