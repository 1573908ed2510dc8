use Rattle.convex_laws.proofs.Plane.{middles_are_plane}
use Rattle.convex_laws.proofs.face_middles.middles_are_plane.Goals as goal

pub returns : goal.returns
returns c = middles_are_plane
