use Rattle.augment_tri.proofs.NearEars.{AlongFace, along_face, has_cx, near_second, either_chord}
use Rattle.augment_tri.proofs.ears.ear_near.Goals as goal
use Rattle.augment_tri.proofs.ears.ear_near.Goals.{After-head-x}

along : (c : After-head-x) → AlongFace c.args.map.now c.args.d.0 c.face_step-e.result.0 c.face_step-f.result.0 c.tail-a.result.0 c.tail-b.result.0 c.tail-c.result.0 c.head-x.result.0
along c = along_face c.args.map.now c.args.d.0 _ _ _ _ _ _ c.requires.live c.face_step-e.ensures c.face_step-f.ensures c.tail-a.ensures c.tail-b.ensures c.tail-c.ensures c.head-x.ensures

pub invariant_of-row-clause-x_in : goal.invariant_of-row-clause-x_in
invariant_of-row-clause-x_in c =
    let row = along ((goal.at.invariant_of-row-clause-x_in c).After-head-x) in
    c.requires.fillable.roomy.known.simple.in_range c.tail-c.result.0 c.head-x.result.0 (has_cx c.args.map.now c.args.d.0 c.face_step-e.result.0 c.face_step-f.result.0 c.tail-a.result.0 c.tail-b.result.0 c.tail-c.result.0 c.head-x.result.0 c.requires.fillable.roomy row)

pub is_first-requires : goal.is_first-requires
is_first-requires c =
    let row = along ((goal.at.is_first-requires c).After-head-x) in
    either_chord c.args.map.now c.args.d.0 c.face_step-e.result.0 c.face_step-f.result.0 c.tail-a.result.0 c.tail-b.result.0 c.tail-c.result.0 c.head-x.result.0 c.requires.fillable.roomy row c.requires.fillable.one c.requires.large c.if-x-a.false

pub returns-then-x-a : goal.returns-then-x-a
returns-then-x-a c =
    let row = along ((goal.at.returns-then-x-a c).After-head-x) in
    near_second c.args.map.now c.args.d.0 c.face_step-e.result.0 c.face_step-f.result.0 c.tail-a.result.0 c.tail-b.result.0 c.tail-c.result.0 c.head-x.result.0 c.requires.fillable.roomy row c.requires.fillable.one c.requires.large c.if-x-a.true
