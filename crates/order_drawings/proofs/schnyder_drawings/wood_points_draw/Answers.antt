use Rattle.order_drawings.proofs.SchnyderLemmas.{drawing}
use Rattle.order_drawings.proofs.schnyder_drawings.wood_points_draw.Goals as goal

pub returns : goal.returns
returns c = λ lists base at points triangulation dart order h. drawing lists base at points triangulation dart order h c.counterclockwise_run_draws.ensures
