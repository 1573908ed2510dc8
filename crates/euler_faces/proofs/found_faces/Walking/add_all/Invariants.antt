use Rattle.map_theory.specs.Maps.{darts_before}
use Rattle.half_edges.specs.Map.{IsHalfMap}
use Rattle.euler_faces.specs.FaceSearch.{AreWalked}
use Rattle.euler_faces.proofs.found_faces.Walking.add_all.Given as goal

abbrev pub invariant-loop-v : goal.invariant-loop-v
invariant-loop-v l = record {
  known : IsHalfMap l.self.map.now;
  walking : AreWalked l.self.map.now l.walks.items l.of (darts_before l.self.map.now.lists l.v);
}
