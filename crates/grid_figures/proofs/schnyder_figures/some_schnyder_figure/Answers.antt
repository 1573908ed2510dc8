use Rattle.grid_figures.specs.SchnyderFiguresFigures.{schnyder_form}
use Rattle.grid_figures.proofs.FigureLemmas.{some_figure, some_drawn_by_wood}
use Rattle.grid_figures.proofs.schnyder_figures.some_schnyder_figure.Goals as goal

pub returns : goal.returns
returns c = some_figure schnyder_form c.completion_draws.ensures c.some_completion.ensures c.some_order.ensures (some_drawn_by_wood c.some_wood_points.ensures c.wood_points_draw.ensures)
