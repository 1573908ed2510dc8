use Rattle.plane_laws.proofs.Chords.{ear_cut}
use Rattle.plane_laws.proofs.map_edits.ear_cut.Goals as goal

pub returns : goal.returns
returns c = ear_cut
