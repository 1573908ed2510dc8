use Rattle.plane_laws.proofs.Chords.{some_ear}
use Rattle.plane_laws.proofs.map_edits.some_ear.Goals as goal

pub returns : goal.returns
returns c = some_ear
