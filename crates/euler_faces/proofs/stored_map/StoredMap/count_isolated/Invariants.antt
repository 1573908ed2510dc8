use Rattle.std.proofs.Common.{◌≡◌, ◌≤◌, ◌∷◌, get_or, take}
use Rattle.map_lists.specs.Cuts.{cut}
use Rattle.map_theory.specs.Maps.{isolated_count}
use Rattle.euler_faces.proofs.stored_map.StoredMap.count_isolated.Given as goal

abbrev pub invariant-loop-v : goal.invariant-loop-v
invariant-loop-v l = record {
  few : l.count ≤ l.v;
  start_is : l.start ≡ get_or (0 ∷ l.self.ends.now) l.v 0;
  isolated : l.count ≡ isolated_count (take l.v (cut 0 l.self.ends.now l.self.entries.now));
}
