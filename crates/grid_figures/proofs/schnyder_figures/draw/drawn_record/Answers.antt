use Rattle.std.proofs.Common.{sym, subst}
use Rattle.plane_laws.specs.Triangulations.{IsTriangulation}
use Rattle.grid_figures.specs.SchnyderFiguresFigures.{schnyder_form}
use Rattle.grid_figures.proofs.FigureLemmas.{order_of_made, figure_of_made}
use Rattle.grid_figures.proofs.schnyder_figures.draw.drawn_record.Goals as goal

pub order_figure-requires-clause-triangulation : goal.order_figure-requires-clause-triangulation
order_figure-requires-clause-triangulation c = subst IsTriangulation (sym c.made_or-lists.ensures) c.in_ok-made.ensures.order.triangulation

pub order_figure-requires-clause-order : goal.order_figure-requires-clause-order
order_figure-requires-clause-order c = order_of_made c.args.input.now.lists.now _ c.made_or-lists.result.now c.order_record.new.self.peeler.order c.made_or-lists.ensures c.in_ok-made.ensures.order

pub returns-clause-figure : goal.returns-clause-figure
returns-clause-figure c = figure_of_made schnyder_form c.completion_draws.ensures c.args.input.now.lists.now _ c.made_or-lists.result.now c.order_record.new.self.peeler.order c.in_ok-figure.figure c.made_or-lists.ensures c.in_ok-made.ensures.order c.in_ok-figure.ensures
