use Rattle.std.proofs.Common.{ℕ, ◌<◌, ◌≤◌, length}
use Rattle.map_theory.specs.Maps.{list_of}
use Rattle.drawings.specs.Bars.{GoesOnceRound}
use Rattle.bar_check.proofs.drawing.BarDrawing.first_turned.Given as goal

abbrev pub invariant-loop-v : goal.invariant-loop-v
invariant-loop-v l = (u : ℕ) → u < l.v → 2 ≤ length (list_of l.self.map.now.lists u) → GoesOnceRound l.self.map.now.lists l.self.fig.now u
