use Rattle.std.proofs.Common.{◌≡◌, ◌≤◌, take}
use Rattle.map_theory.specs.Maps.{isolated_count}
use Rattle.euler_faces.proofs.half_map_counts.count_isolated.Given as goal

abbrev pub invariant-loop-v : goal.invariant-loop-v
invariant-loop-v l = record {
  few : l.count ≤ l.v;
  isolated : l.count ≡ isolated_count (take l.v l.map.lists);
}
