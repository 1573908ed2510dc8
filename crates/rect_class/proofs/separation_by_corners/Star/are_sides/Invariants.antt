-- Each entry before this place that has the stamp is one of the two.
use Rattle.std.proofs.Common.{ℕ, ◌<◌, ◌+◌, get_or}
use Rattle.rect_class.specs.Corners.{IsSide}
use Rattle.rect_class.proofs.separation_by_corners.Star.are_sides.Given as goal

abbrev pub invariant-loop-w : goal.invariant-loop-w
invariant-loop-w l = (k : ℕ) → k < l.w-index → IsSide l.self.marks.now (l.self.v + 1) l.last l.next (get_or l.ws k 0)
