use Rattle.rect_runs.proofs.RectEndsEnds.{corners_of_faces}
use Rattle.rect_runs.proofs.rect_ends.corners_of_faces.Goals as goal

pub returns : goal.returns
returns c = corners_of_faces
