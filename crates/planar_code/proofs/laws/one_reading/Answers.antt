-- The reading of an input is unique.
use Rattle.planar_code.proofs.ReadingLemmas.{reading-unique}
use Rattle.planar_code.proofs.laws.one_reading.Goals as goal

pub returns : goal.returns
returns c = reading-unique
