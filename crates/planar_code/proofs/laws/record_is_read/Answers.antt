-- A record is read wherever it stands.
use Rattle.planar_code.proofs.StandsLemmas.{stands, fails}
use Rattle.planar_code.proofs.laws.record_is_read.Goals as goal

pub returns : goal.returns
returns c = λ front bytes rest lists is. (stands front bytes rest lists is, fails front bytes rest lists is)
