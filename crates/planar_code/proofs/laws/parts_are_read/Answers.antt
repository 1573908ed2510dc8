use Rattle.planar_code.proofs.WholeLemmas.{parts-read}
use Rattle.planar_code.proofs.laws.parts_are_read.Goals as goal

pub returns : goal.returns
returns c = parts-read
