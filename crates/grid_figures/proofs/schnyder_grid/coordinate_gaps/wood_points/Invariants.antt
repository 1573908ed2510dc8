-- The first k rows are covered.
use Rattle.std.proofs.Common.{ℕ}
use Rattle.contour_runs.specs.Runs.{Step, stage_after}
use Rattle.contour_runs.specs.Wood.{coordinates}
use Rattle.order_drawings.specs.Rows.{AreRows}
use Rattle.grid_figures.specs.Gaps.{AreGaps}
use Rattle.grid_figures.proofs.schnyder_grid.coordinate_gaps.wood_points.Given as goal

abbrev pub invariant-loop-k : goal.invariant-loop-k
invariant-loop-k l = (steps : ℕ → Step) → AreRows steps l.rows → AreGaps (stage_after steps l.k) (coordinates steps l.k) l.drops l.rises l.spans l.covers
