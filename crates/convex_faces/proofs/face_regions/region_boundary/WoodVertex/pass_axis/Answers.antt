use Rattle.std.proofs.Common.{◌≡◌, ◌+◌, subst, arith}
use Rattle.convex_faces.specs.Directions.{root_in}
use Rattle.convex_faces.specs.Passing.{PassesAxis}
use Rattle.convex_faces.proofs.PassLemmas.{axis_begin}
use Rattle.convex_faces.proofs.AxisLemmas.{not_root, live, in_range, step, higher}
use Rattle.convex_faces.proofs.face_regions.region_boundary.WoodVertex.pass_axis.Goals as goal

pub loop-passed-init : goal.loop-passed-init
loop-passed-init c = record {
  vertex = c.requires.vertex;
  marks = c.requires.marks;
  passes = λ base w. axis_begin c.args.self.now.map.now c.facts.ensures (root_in c.args.self.now.wood.now) w.head c.args.axis c.args.self.now.v.0 c.args.marked.now;
  higher = λ base w. omega arith;
}

pub out-requires : goal.out-requires
out-requires c = let (base, w) = c.requires.wood in let count = w.count in omega (arith, c.loop-passed.invariant.vertex, count)

pub pass-requires-clause-live : goal.pass-requires-clause-live
pass-requires-clause-live c =
    let (base, w) = c.requires.wood in
    let h = c.loop-passed.invariant in
    let ne = not_root _ _ (c.loop-passed.at.0 ≡ root_in c.args.self.now.wood.now c.args.axis) c.in-Some.is c.out.ensures.root.1 in
    live c.args.self.now.map.now c.facts.ensures base c.args.self.now.wood.now w c.args.axis c.args.self.now.v.0 c.loop-passed.at.0 c.in-Some.d.0 h.vertex ne c.in-Some.ensures.dart

pub head-at-requires : goal.head-at-requires
head-at-requires c =
    let (base, w) = c.requires.wood in
    let h = c.loop-passed.invariant in
    let ne = not_root _ _ (c.loop-passed.at.0 ≡ root_in c.args.self.now.wood.now c.args.axis) c.in-Some.is c.out.ensures.root.1 in
    live c.args.self.now.map.now c.facts.ensures base c.args.self.now.wood.now w c.args.axis c.args.self.now.v.0 c.loop-passed.at.0 c.in-Some.d.0 h.vertex ne c.in-Some.ensures.dart

pub loop-passed-preserved : goal.loop-passed-preserved
loop-passed-preserved c =
    let h = c.loop-passed.invariant in
    let ne = not_root _ _ (c.loop-passed.at.0 ≡ root_in c.args.self.now.wood.now c.args.axis) c.in-Some.is c.out.ensures.root.1 in
    let at = c.loop-passed.at.0 in
    let d = c.in-Some.d.0 in
    let map = c.args.self.now.map.now in
    let wood = c.args.self.now.wood.now in
    let known = c.facts.ensures in
    let u = c.head-at.result.0 in record {
      vertex = let given = c.requires.wood in in_range map known given.0 wood given.1 c.args.axis c.args.self.now.v.0 at d h.vertex ne c.in-Some.ensures.dart u c.head-at.ensures;
      marks = let e = c.pass.auto.marked in omega (arith, h.marks);
      passes = λ base w. step map known base wood w c.args.axis c.args.self.now.v.0 at d h.vertex ne c.in-Some.ensures.dart u c.head-at.ensures c.args.marked.now c.loop-passed.marked _ (h.passes base w) c.pass.ensures;
      higher = λ base w. higher map known base wood w c.args.axis c.args.self.now.v.0 at d h.vertex ne c.in-Some.ensures.dart u c.head-at.ensures c.loop-passed.passed (c.loop-passed.passed + 1) (h.higher base w) (omega arith);
    }

pub returns-in-None : goal.returns-in-None
returns-in-None c = λ base w.
    subst (λ u. PassesAxis c.args.self.now.map.now (root_in c.args.self.now.wood.now) w.head c.args.axis c.args.self.now.v.0 u c.args.marked.now c.loop-passed.marked) (c.out.ensures.root.0 c.in-None.is) (c.loop-passed.invariant.passes base w)

pub unreachable-requires : goal.unreachable-requires
unreachable-requires c =
    let (base, w) = c.requires.wood in
    let h = c.loop-passed.invariant in
    let up = h.higher base w in
    let low = w.most c.args.axis c.loop-passed.at.0 h.vertex in
    omega (arith, c.loop-passed-test.false, up, low)
