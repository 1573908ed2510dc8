use Rattle.std.proofs.Common.{rules, append_assoc}
use Rattle.svg_out.specs.Svg.{opening}
use Rattle.svg_out.proofs.svg_tags.push_opening.Goals as goal

pub returns : goal.returns
unfolding opening
returns c = search (rules, append_assoc)
