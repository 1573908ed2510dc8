use Rattle.rect_class.proofs.HeadLemmas.{ends-below}
use Rattle.rect_class.proofs.separating_triangles.Edge.shorter_end.Goals as goal

pub degree-requires-2 : goal.degree-requires-2
degree-requires-2 c = (ends-below c.args.self.now.near.map.now c.args.self.now.near.map.now.known c.args.self.now.d.0 c.args.self.now.a.0 c.args.self.now.b.0 c.args.self.now.dart).1
