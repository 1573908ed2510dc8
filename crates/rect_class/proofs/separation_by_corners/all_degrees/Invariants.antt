use Rattle.std.proofs.Common.{◌≡◌, length}
use Rattle.rect_class.proofs.separation_by_corners.all_degrees.Given as goal

abbrev pub invariant-loop-v : goal.invariant-loop-v
invariant-loop-v l = length l.degrees.items ≡ length l.lists
