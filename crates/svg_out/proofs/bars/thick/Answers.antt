use Rattle.std.proofs.Common.{rules}
use Rattle.svg_out.specs.Svg.{thick}
use Rattle.svg_out.proofs.bars.thick.Goals as goal

pub returns : goal.returns
unfolding thick
returns c = search rules
