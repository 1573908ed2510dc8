use Rattle.grid_figures.proofs.CompletionLemmas.{completion_draws}
use Rattle.grid_figures.proofs.drawing_orders.completion_draws.Goals as goal

pub returns : goal.returns
returns c = completion_draws
