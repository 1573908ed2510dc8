use Rattle.std.proofs.Common.{◌≡◌, length}
use Rattle.schnyder_wood.specs.Counting.{HasOdd, MarksMore}
use Rattle.schnyder_wood.proofs.schnyder_regions.region_counts.Region.mark_tails.Given as goal

abbrev pub invariant-loop-d : goal.invariant-loop-d
invariant-loop-d l = record {
  count : length l.inside ≡ length l.self.map.now.lists;
  marks : MarksMore (HasOdd l.self.map.now l.met l.d) l.initial.inside l.inside;
}
