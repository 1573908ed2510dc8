use Rattle.std.proofs.Common.{◌≡◌, ◌<◌, ◌≤◌, ◌+◌, length}
use Rattle.map_theory.specs.Maps.{Dart}
use Rattle.half_edges.specs.Map.{id_bound}
use Rattle.convex_faces.specs.Directions.{root_in, IsWoodIn}
use Rattle.convex_faces.specs.Passing.{PassesAxis}
use Rattle.convex_faces.proofs.face_regions.region_boundary.WoodVertex.pass_axis.Given as goal

abbrev pub invariant-loop-passed : goal.invariant-loop-passed
invariant-loop-passed l = record {
  vertex : l.at.0 < length l.self.map.now.lists;
  marks : length l.marked ≡ id_bound l.self.map.now;
  passes : (base : Dart) (w : IsWoodIn l.self.map.now base l.self.wood.now) → PassesAxis l.self.map.now (root_in l.self.wood.now) w.head l.axis l.self.v.0 l.at.0 l.initial.marked l.marked;
  higher : (base : Dart) (w : IsWoodIn l.self.map.now base l.self.wood.now) → w.height l.axis l.self.v.0 + l.passed ≤ w.height l.axis l.at.0;
}
