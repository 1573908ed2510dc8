use Rattle.bipolar.proofs.Bars.{dual_numbers_are_bars}
use Rattle.bipolar.proofs.bar_laws.dual_numbers_are_bars.Goals as goal

pub returns : goal.returns
returns c = dual_numbers_are_bars
