use Rattle.std.proofs.Common.{◌+◌, arith}
use Rattle.convex_faces.proofs.RestLemmas.{begin_rest, more_rest, done_rest, none_left}
use Rattle.convex_faces.proofs.face_regions.region_boundary.OuterCorner.pass_rest.Goals as goal

pub loop-passed-init : goal.loop-passed-init
loop-passed-init c = record {
  marks = c.requires.marks;
  on = begin_rest c.args.self.now.map.now c.facts.ensures c.requires.plane c.requires.three c.args.self.now.base.0 c.args.self.now.before.0 c.requires.corner c.face_step-d.result.0 c.args.marked.now c.face_step-d.ensures;
}

pub returns-then-d-before : goal.returns-then-d-before
returns-then-d-before c =
    done_rest c.args.self.now.map.now c.facts.ensures c.requires.plane c.requires.three c.args.self.now.base.0 c.args.self.now.before.0 c.requires.corner c.loop-passed.d.0 c.loop-passed.passed c.args.marked.now c.loop-passed.marked c.loop-passed.invariant.on c.if-d-before.true

pub pass-requires-clause-live : goal.pass-requires-clause-live
pass-requires-clause-live c = c.loop-passed.invariant.on.live

pub face_step-d-requires-in-loop-passed : goal.face_step-d-requires-in-loop-passed
face_step-d-requires-in-loop-passed c = c.loop-passed.invariant.on.live

pub loop-passed-preserved : goal.loop-passed-preserved
loop-passed-preserved c = record {
  marks = let e = c.pass.auto.marked in omega (arith, c.loop-passed.invariant.marks);
  on = more_rest c.args.self.now.map.now c.facts.ensures c.requires.plane c.requires.three c.args.self.now.base.0 c.args.self.now.before.0 c.requires.corner c.loop-passed.d.0 c.face_step-d-in-loop-passed.result.0 c.loop-passed.passed (c.loop-passed.passed + 1) c.args.marked.now c.loop-passed.marked _ c.loop-passed.invariant.on c.if-d-before.false c.pass.ensures c.face_step-d-in-loop-passed.ensures (omega arith);
}

pub unreachable-requires : goal.unreachable-requires
unreachable-requires c =
    none_left c.args.self.now.map.now c.facts.ensures c.requires.plane c.requires.three c.args.self.now.base.0 c.args.self.now.before.0 c.requires.corner c.loop-passed.d.0 c.loop-passed.passed c.args.marked.now c.loop-passed.marked c.loop-passed.invariant.on (omega (arith, c.loop-passed-test.false, c.m.ensures.count, c.spare.ensures))
