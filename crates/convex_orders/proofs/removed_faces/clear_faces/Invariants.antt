use Rattle.std.proofs.Common.{ℕ, ◌≡◌, ◌↔◌, true, length}
use Rattle.convex_orders.specs.Shown.{is_set}
use Rattle.convex_orders.proofs.Flags.{IsBefore}
use Rattle.convex_orders.proofs.removed_faces.clear_faces.Given as goal

abbrev pub invariant-loop-k : goal.invariant-loop-k
invariant-loop-k l = record {
  long : length l.marks ≡ length l.initial.marks;
  flags : (f : ℕ) → (is_set l.marks f ≡ true) ↔ ((is_set l.initial.marks f ≡ true) × (¬ IsBefore l.row l.k f));
}
