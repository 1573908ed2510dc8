use Rattle.bipolar.proofs.Numberings.{one_numbering}
use Rattle.bipolar.proofs.bar_laws.numbering_is_one.Goals as goal

pub returns : goal.returns
returns c = λ lists s t at rank x. one_numbering x
