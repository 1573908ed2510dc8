use Rattle.canon_order.specs.Orders.{vertices_of}
use Rattle.grid_figures.proofs.FigureLemmas.{drawn_by_shift}
use Rattle.grid_figures.proofs.shift_figures.draw.order_figure.Goals as goal

pub returns : goal.returns
returns c = λ to dart canonical.
    drawn_by_shift c.args.lists.now to (vertices_of c.args.order.now) canonical.cycle c.in_ok-figure.figure (c.in_ok-figure.ensures.points (0, to) canonical) (c.in_ok-figure.ensures.drawing (0, to) dart canonical) c.in_ok-figure.ensures.width c.in_ok-figure.ensures.height
