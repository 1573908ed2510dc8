use Rattle.convex_class.proofs.ClearLemmas.{across_one}
use Rattle.convex_class.proofs.face_pairs.uncut_map.UncutMap.across.Goals as goal

pub returns-clause-all : goal.returns-clause-all
returns-clause-all c = λ z h.
    across_one c.args.self.now.map.now c.facts.ensures.known c.args.self.now.faces.now c.facts.ensures.faces c.args.d.0 c.twin-twin.result.0 c.of_dart.result.0 z c.twin-twin.ensures (c.of_dart.ensures.face, c.of_dart.ensures.stands) h
