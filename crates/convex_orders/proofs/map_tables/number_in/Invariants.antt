use Rattle.std.proofs.Common.{ℕ, ◌≤◌, ◌<◌, ◌≡◌, length, slice_index}
use Rattle.map_theory.specs.Maps.{list_of}
use Rattle.convex_orders.proofs.map_tables.number_in.Given as goal

abbrev pub invariant-loop-k : goal.invariant-loop-k
invariant-loop-k l = (k : ℕ) → k < length (list_of l.lists l.x) → slice_index (list_of l.lists l.x) k ≡ l.y → l.k ≤ k
