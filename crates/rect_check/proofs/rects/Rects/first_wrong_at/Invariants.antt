use Rattle.std.proofs.Common.{ℕ, ◌<◌, ◌↔◌}
use Rattle.map_theory.specs.Maps.{HasDart}
use Rattle.drawings.specs.Duals.{ShareSide}
use Rattle.rect_check.proofs.rects.Rects.first_wrong_at.Given as goal

abbrev pub invariant-loop-v : goal.invariant-loop-v
invariant-loop-v l = (w : ℕ) → l.fn.u.0 < w → w < l.v → ShareSide l.self.fig.now l.fn.u.0 w ↔ HasDart l.self.map.now.lists l.fn.u.0 w
