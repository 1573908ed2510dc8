use Rattle.std.proofs.Common.{◌≡◌, ◌<◌, ℕ, length, get_or, map}
use Rattle.simple_maps.specs.Pass.{AreInLine}
use Rattle.simple_maps.proofs.dart_slots.write_slots.Given as goal

abbrev pub invariant-loop-d : goal.invariant-loop-d
invariant-loop-d g l = record {
  count : length l.slots ≡ length l.twins;
  tails : (i : ℕ) → i < l.d → get_or (map g.P.DartSlot.tail_of l.slots) i 0 ≡ get_or l.tails i 0;
  twins : (i : ℕ) → i < l.d → get_or (map g.P.DartSlot.twin_of l.slots) i 0 ≡ get_or l.twins i 0;
  line : AreInLine g.P.DartSlot.IsInLine l.slots l.d;
}
