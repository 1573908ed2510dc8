use Rattle.std.proofs.Common.{sym, subst}
use Rattle.convex_faces.specs.Passing.{PassesOuter}
use Rattle.convex_faces.proofs.RestLemmas.{outer_one, outer_three}
use Rattle.convex_faces.proofs.face_regions.region_boundary.OuterCorner.pass_outer.Goals as goal

pub returns-in-One : goal.returns-in-One
returns-in-One c =
    subst (λ a. PassesOuter c.args.self.now.map.now c.args.self.now.base.0 c.args.self.now.before.0 a c.args.marked.now c.pass.new.marked) (sym c.in-One.is)
    (outer_one c.args.self.now.map.now c.facts.ensures c.requires.plane c.requires.three c.args.self.now.base.0 c.args.self.now.before.0 c.requires.corner c.args.marked.now c.pass.new.marked c.pass.ensures)

pub returns-in-Three : goal.returns-in-Three
returns-in-Three c =
    subst (λ a. PassesOuter c.args.self.now.map.now c.args.self.now.base.0 c.args.self.now.before.0 a c.args.marked.now c.pass-in-Three.new.marked) (sym c.in-Three.is)
    (outer_three c.args.self.now.map.now c.facts.ensures c.requires.plane c.requires.three c.args.self.now.base.0 c.args.self.now.before.0 c.requires.corner c.args.marked.now c.pass-in-Three.new.marked c.pass-in-Three.ensures)
