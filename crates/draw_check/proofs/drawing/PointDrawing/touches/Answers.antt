use Rattle.draw_check.proofs.MetLemmas.{head_below}
use Rattle.draw_check.proofs.drawing.PointDrawing.touches.Goals as goal

pub meets-requires-clause-b : goal.meets-requires-clause-b
meets-requires-clause-b c = head_below c.args.self.now.map.now c.args.self.now.map.now.known c.args.d.0 c.head-b.result.0 _ c.requires.live c.head-b.ensures c.args.self.now.places.count
