use Rattle.left_right_laws.proofs.Crossings.{plane_by_nesting}
use Rattle.left_right_laws.proofs.plane_by_nesting.Goals as goal

pub returns : goal.returns
returns c = plane_by_nesting
