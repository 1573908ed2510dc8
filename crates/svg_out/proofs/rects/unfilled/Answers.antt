use Rattle.std.proofs.Common.{rules}
use Rattle.svg_out.specs.Svg.{unfilled}
use Rattle.svg_out.proofs.rects.unfilled.Goals as goal

pub returns : goal.returns
unfolding unfilled
returns c = search rules
