use Rattle.std.proofs.Common.{◌≡◌, ◌≤◌}
use Rattle.classes.specs.Classes.{count_below}
use Rattle.euler_faces.specs.Numbers.{mark_at}
use Rattle.schnyder_wood.proofs.schnyder_regions.region_counts.Region.count.Given as goal

abbrev pub invariant-loop-u : goal.invariant-loop-u
invariant-loop-u l = record {
  count : l.count ≡ count_below (mark_at l.inside) l.u;
  few : l.count ≤ l.u;
}
