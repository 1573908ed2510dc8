-- An input is read byte after byte.
use Rattle.planar_code.proofs.ReadsLemmas.{each-reads}
use Rattle.planar_code.proofs.laws.each_input_is_read.Goals as goal

pub returns : goal.returns
returns c = each-reads
