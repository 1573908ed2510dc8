-- The vertex stands at no place passed.
use Rattle.std.proofs.Common.{ℕ, ◌<◌, ◌≢◌, get_or}
use Rattle.rect_class.proofs.cyclic_lists.Ring.next.Given as goal

abbrev pub invariant-loop-k : goal.invariant-loop-k
invariant-loop-k l = (j : ℕ) → j < l.k → get_or l.self.us.now j 0 ≢ l.u
