use Rattle.std.proofs.Common.{rules}
use Rattle.svg_out.specs.Svg.{front}
use Rattle.svg_out.proofs.svg_tags.front.Goals as goal

pub returns : goal.returns
unfolding front
returns c = search rules
