use Rattle.std.proofs.Common.{ℕ, ◌<◌, ◌↔◌, length}
use Rattle.map_theory.specs.Maps.{HasDart}
use Rattle.drawings.specs.Duals.{ShareSide}
use Rattle.rect_check.proofs.rects.Rects.first_wrong.Given as goal

abbrev pub invariant-loop-u : goal.invariant-loop-u
invariant-loop-u l = (s v : ℕ) → s < l.u → s < v → v < length l.self.map.now.lists → ShareSide l.self.fig.now s v ↔ HasDart l.self.map.now.lists s v
