use Rattle.augment_tri.proofs.NearEars.{triangle_by_ids}
use Rattle.augment_tri.proofs.ears.is_triangle.Goals as goal

pub returns : goal.returns
returns c = λ a b at. triangle_by_ids c.args.map.now c.args.d.0 _ _ _ a b c.args.map.now.known c.face_step.ensures c.face_step-2.ensures c.face_step-third.ensures at
