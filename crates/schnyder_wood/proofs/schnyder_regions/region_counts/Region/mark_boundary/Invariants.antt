use Rattle.std.proofs.Common.{◌≡◌, ◌<◌, length}
use Rattle.schnyder_wood.specs.ClosedPaths.{IsVertexOf}
use Rattle.schnyder_wood.specs.Counting.{MarksMore}
use Rattle.schnyder_wood.proofs.schnyder_regions.region_counts.Region.mark_boundary.Given as goal

abbrev pub invariant-loop-u : goal.invariant-loop-u
invariant-loop-u l = record {
  count : length l.inside ≡ length l.self.map.now.lists;
  marks : MarksMore (λ w. (w < l.u) × IsVertexOf l.self.path.now w) l.initial.inside l.inside;
}
