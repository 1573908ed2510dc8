use Rattle.planar_code.proofs.WholeLemmas.{whole-one}
use Rattle.planar_code.proofs.laws.one_whole_reading.Goals as goal

pub returns : goal.returns
returns c = whole-one
