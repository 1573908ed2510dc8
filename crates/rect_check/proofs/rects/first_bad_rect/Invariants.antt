use Rattle.std.proofs.Common.{ℕ, ◌<◌, length}
use Rattle.drawings.specs.Duals.{IsRect}
use Rattle.rect_check.proofs.rects.first_bad_rect.Given as goal

abbrev pub invariant-loop-v : goal.invariant-loop-v
invariant-loop-v l = (u : ℕ) → u < l.v → IsRect (length l.map.lists) l.fig u
