use Rattle.std.proofs.Common.{rules, append_assoc}
use Rattle.svg_out.specs.Svg.{sides}
use Rattle.svg_out.proofs.svg_tags.push_sides.Goals as goal

pub returns : goal.returns
unfolding sides
returns c = search (rules, append_assoc)
