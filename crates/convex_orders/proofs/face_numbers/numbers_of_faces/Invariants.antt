use Rattle.std.proofs.Common.{◌≡◌, ◌<◌, ℕ, length}
use Rattle.map_lists.specs.Cuts.{cut, AreCuts}
use Rattle.map_theory.specs.Maps.{list_of}
use Rattle.convex_orders.specs.FaceNumbers.{AreOwn, AreOther}
use Rattle.convex_orders.proofs.face_numbers.numbers_of_faces.Given as goal

abbrev pub invariant-loop-v : goal.invariant-loop-v
invariant-loop-v l = record {
  own_cuts : AreCuts 0 l.own_ends.items (length l.own.items);
  other_cuts : AreCuts 0 l.other_ends.items (length l.other.items);
  own_count : length (cut 0 l.own_ends.items l.own.items) ≡ l.v;
  other_count : length (cut 0 l.other_ends.items l.other.items) ≡ l.v;
  own_sizes : (u : ℕ) → u < l.v → length (list_of (cut 0 l.own_ends.items l.own.items) u) ≡ length (list_of l.map.lists u);
  other_sizes : (u : ℕ) → u < l.v → length (list_of (cut 0 l.other_ends.items l.other.items) u) ≡ length (list_of l.map.lists u);
  own_each : (u : ℕ) → u < l.v → AreOwn l.map l.faces u (list_of (cut 0 l.own_ends.items l.own.items) u);
  other_each : (u : ℕ) → u < l.v → AreOther l.map l.faces u (list_of (cut 0 l.other_ends.items l.other.items) u);
}
