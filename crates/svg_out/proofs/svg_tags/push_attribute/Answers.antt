use Rattle.std.proofs.Common.{rules, append_assoc}
use Rattle.svg_out.specs.Svg.{attribute}
use Rattle.svg_out.proofs.svg_tags.push_attribute.Goals as goal

pub returns : goal.returns
unfolding attribute
returns c = search (rules, append_assoc)
