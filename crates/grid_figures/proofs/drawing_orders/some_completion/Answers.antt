use Rattle.grid_figures.proofs.CompletionLemmas.{some_completion}
use Rattle.grid_figures.proofs.drawing_orders.some_completion.Goals as goal

pub returns : goal.returns
returns c = λ lists. some_completion lists c.completion.ensures
