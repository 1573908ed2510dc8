use Rattle.draw_check.proofs.MetLemmas.{first_cross}
use Rattle.draw_check.proofs.drawing.PointDrawing.crossing_of.Goals as goal

pub first_met-requires : goal.first_met-requires
first_met-requires c =
    let edge = c.requires.edge in
    let greater = c.args.self.now.map.now.known.simple.in_range c.args.a.0 c.args.b.0 edge.1 in
    record { probe = (edge.1.0, greater) }

pub returns : goal.returns
returns c = first_cross c.args.self.now.map.now.lists c.args.self.now.points.now c.args.a c.args.b c.requires.edge c.first_met.result c.first_met.ensures
