use Rattle.std.proofs.Common.{◌≡◌, length}
use Rattle.half_edges.specs.Map.{id_bound}
use Rattle.convex_faces.proofs.RestLemmas.{IsOnRest}
use Rattle.convex_faces.proofs.face_regions.region_boundary.OuterCorner.pass_rest.Given as goal

abbrev pub invariant-loop-passed : goal.invariant-loop-passed
invariant-loop-passed l = record {
  marks : length l.marked ≡ id_bound l.self.map.now;
  on : IsOnRest l.self.map.now l.self.base.0 l.self.before.0 l.d.0 l.passed l.initial.marked l.marked;
}
