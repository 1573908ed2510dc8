use Rattle.pg_plane.proofs.PlaneByDarts.{plane_by_darts}
use Rattle.pg_plane.proofs.face_geometry.faces_are_plane.Goals as goal

pub returns : goal.returns
returns c = plane_by_darts
