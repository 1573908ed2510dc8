-- By the line at the front, and by those behind it.
use Rattle.figure_text.proofs.UniqueFigures.{one-answer}
use Rattle.figure_text.proofs.laws.one_answer.Goals as goal

pub returns : goal.returns
returns c = one-answer
