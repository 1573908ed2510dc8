use Rattle.convex_laws.proofs.Sides.{sides_are_known}
use Rattle.convex_laws.proofs.closed_walks.sides_are_known.Goals as goal

pub returns : goal.returns
returns c = sides_are_known
