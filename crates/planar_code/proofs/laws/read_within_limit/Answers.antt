use Rattle.planar_code.proofs.WholeLemmas.{read-limited}
use Rattle.planar_code.proofs.laws.read_within_limit.Goals as goal

pub returns : goal.returns
returns c = read-limited
