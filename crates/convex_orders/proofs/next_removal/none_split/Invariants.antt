use Rattle.std.proofs.Common.{ℕ, ◌+◌, ◌<◌, ◌≡◌, true, slice_index}
use Rattle.convex_orders.specs.Shown.{is_set}
use Rattle.convex_orders.proofs.next_removal.none_split.Given as goal

abbrev pub invariant-loop-k : goal.invariant-loop-k
invariant-loop-k l = (i : ℕ) → i < l.k → is_set l.marks (slice_index l.own i) ≡ true → slice_index l.places (slice_index l.own i) ≡ slice_index l.edges (slice_index l.own i) + 1
