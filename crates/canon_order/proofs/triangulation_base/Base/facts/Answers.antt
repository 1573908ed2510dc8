use Rattle.map_theory.proofs.Known.{HasDart-known}
use Rattle.canon_order.proofs.Known.{IsTriangulation-known}
use Rattle.canon_order.proofs.triangulation_base.Base.facts.Goals as goal

pub returns-clause-triangulation : goal.returns-clause-triangulation
returns-clause-triangulation c = IsTriangulation-known c.args.self.now.lists.now c.args.self.now.triangulated

pub returns-clause-base : goal.returns-clause-base
returns-clause-base c = HasDart-known c.args.self.now.lists.now c.args.self.now.t c.args.self.now.s c.args.self.now.dart
