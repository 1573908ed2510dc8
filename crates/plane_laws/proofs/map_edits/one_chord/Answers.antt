use Rattle.plane_laws.proofs.Chords.{one_chord}
use Rattle.plane_laws.proofs.map_edits.one_chord.Goals as goal

pub returns : goal.returns
returns c = one_chord
