use Rattle.drawings.proofs.EdgeNumbers.{edge_number-rise}
use Rattle.drawings.proofs.NumberCounts.{edge_number-lt}
use Rattle.bar_check.proofs.edge_numbers.Goals as goal

pub returns : goal.returns
returns c = λ lists simple. record { below = edge_number-lt lists simple; rise = edge_number-rise lists simple }
