use Rattle.std.proofs.Common.{rules, append_assoc}
use Rattle.svg_out.specs.Svg.{dot}
use Rattle.svg_out.proofs.svg_tags.push_dot.Goals as goal

pub returns : goal.returns
unfolding dot
returns c = search (rules, append_assoc)
