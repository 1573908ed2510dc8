use Rattle.std.proofs.Common.{ℕ, ◌<◌}
use Rattle.map_theory.specs.Maps.{HasDart}
use Rattle.grid_figures.proofs.drawing_orders.completed_records.least_dart.Given as goal

abbrev pub invariant-loop-u : goal.invariant-loop-u
invariant-loop-u l = (u : ℕ) → u < l.u → ¬ HasDart l.tri.lists 0 u
