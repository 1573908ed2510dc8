use Rattle.std.proofs.Common.{rules}
use Rattle.svg_out.specs.Svg.{closing}
use Rattle.svg_out.proofs.svg_tags.push_closing.Goals as goal

pub returns : goal.returns
unfolding closing
returns c = search rules
