use Rattle.grid_figures.specs.ShiftFiguresFigures.{shift_form}
use Rattle.grid_figures.proofs.FigureLemmas.{some_figure, some_drawn_by_shift}
use Rattle.grid_figures.proofs.shift_figures.some_shift_figure.Goals as goal

pub returns : goal.returns
returns c = some_figure shift_form c.completion_draws.ensures c.some_completion.ensures c.some_order.ensures (some_drawn_by_shift c.some_shift_points.ensures c.shift_points_draw.ensures)
