use Rattle.std.proofs.Common.{rules, append_assoc}
use Rattle.svg_out.specs.Svg.{grid_body}
use Rattle.svg_out.proofs.EdgeLemmas.{AreBelow-edges}
use Rattle.svg_out.proofs.grid.svg_grid.Goals as goal

pub push_straight_edges-requires : goal.push_straight_edges-requires
push_straight_edges-requires c = search (rules, AreBelow-edges)

pub returns-clause-ok : goal.returns-clause-ok
unfolding grid_body
returns-clause-ok c = search (rules, append_assoc)
