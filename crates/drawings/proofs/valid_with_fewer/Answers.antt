use Rattle.drawings.proofs.ValidFewer.{valid_with_fewer}
use Rattle.drawings.proofs.valid_with_fewer.Goals as goal

pub returns : goal.returns
returns c = λ lists more points width height simple simple' extended valid. valid_with_fewer lists more points width height simple simple' extended valid
