use Rattle.convex_class.proofs.FacesKnown.{AreFaces-known}
use Rattle.convex_class.proofs.face_pairs.uncut_map.UncutMap.facts.Goals as goal

pub returns-clause-faces : goal.returns-clause-faces
returns-clause-faces c = AreFaces-known c.args.self.now.map.now c.args.self.now.faces.now c.args.self.now.walked

pub returns-clause-uncut : goal.returns-clause-uncut
returns-clause-uncut c = record { simple = c.args.self.now.map.now.known.simple; plane = c.args.self.now.plane; uncut = c.args.self.now.uncut }
