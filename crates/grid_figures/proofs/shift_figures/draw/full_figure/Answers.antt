use Rattle.std.proofs.Common.{get_or}
use Rattle.map_theory.specs.Maps.{list_of}
use Rattle.canon_order.specs.Orders.{vertices_of}
use Rattle.grid_figures.specs.ShiftFiguresFigures.{shift_form}
use Rattle.grid_figures.proofs.CompletionLemmas.{full_completion}
use Rattle.grid_figures.proofs.FigureLemmas.{figure_of_drawing}
use Rattle.grid_figures.proofs.shift_figures.draw.full_figure.Goals as goal

pub order_figure-requires-clause-order : goal.order_figure-requires-clause-order
order_figure-requires-clause-order c = ((0, get_or (list_of c.args.input.now.lists.now 0) 0 0), c.in_ok-order_full.ensures.order)

pub returns : goal.returns
returns c =
    let lists = c.args.input.now.lists.now in
    let whole = full_completion lists c.requires in
    let order = c.in_ok-order_full.ensures.order in
    figure_of_drawing shift_form c.completion_draws.ensures lists lists (get_or (list_of lists 0) 0 0) whole (vertices_of c.order_full.new.peeler.order) order c.in_ok-figure.figure (c.in_ok-figure.ensures (get_or (list_of lists 0) 0 0) whole.base.dart order)
