use Rattle.plane_laws.proofs.Chords.{corner_chord}
use Rattle.plane_laws.proofs.map_edits.corner_chord.Goals as goal

pub returns : goal.returns
returns c = corner_chord
