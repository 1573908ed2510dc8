use Rattle.std.proofs.Common.{rules, append_assoc}
use Rattle.svg_out.specs.Svg.{segment, ends}
use Rattle.svg_out.proofs.svg_tags.push_segment.Goals as goal

pub returns : goal.returns
unfolding segment ends
returns c = search (rules, append_assoc)
