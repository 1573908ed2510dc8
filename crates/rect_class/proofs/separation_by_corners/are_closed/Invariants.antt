-- There is a mark for each vertex, and each vertex before this one is closed over the neighbours that come before it.
use Rattle.std.proofs.Common.{ℕ, ◌<◌, ◌≡◌, length, get_or}
use Rattle.map_theory.specs.Maps.{list_of}
use Rattle.rect_class.specs.Corners.{IsClosedOver, ComesBefore}
use Rattle.rect_class.proofs.separation_by_corners.are_closed.Given as goal

abbrev pub invariant-loop-v : goal.invariant-loop-v
invariant-loop-v l = (length l.marks.items ≡ length l.lists) × ((x : ℕ) → x < l.v → (k : ℕ) → k < length (list_of l.lists x) → ComesBefore l.degrees.items (get_or (list_of l.lists x) k 0) x → IsClosedOver l.lists x (get_or (list_of l.lists x) k 0))
