-- The drops and the rises from vertex v on are added up.
use Rattle.contour_runs.specs.Runs.{Stage}
use Rattle.contour_runs.specs.Wood.{Coordinates, drawn_one, drawn_two}
use Rattle.grid_figures.specs.Gaps.{AreLastGaps, AreSums}
use Rattle.grid_figures.proofs.schnyder_grid.coordinate_gaps.add_up.Given as goal

abbrev pub invariant-loop-v : goal.invariant-loop-v
invariant-loop-v l = (g : Stage) (at : Coordinates) → AreLastGaps g at l.fn.drops l.fn.rises l.spans l.covers → AreSums l.v (drawn_one at) l.fn.drops l.drops × AreSums l.v (drawn_two at) l.fn.rises l.rises
