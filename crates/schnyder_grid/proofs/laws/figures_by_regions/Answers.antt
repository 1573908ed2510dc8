use Rattle.schnyder_grid.proofs.FigureRegions.{figures_by_regions}
use Rattle.schnyder_grid.proofs.laws.figures_by_regions.Goals as goal

pub returns : goal.returns
returns c = figures_by_regions c.covered_once.ensures c.wood_of_order.ensures c.drawn_at_coordinates.ensures
