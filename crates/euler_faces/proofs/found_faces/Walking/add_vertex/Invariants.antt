use Rattle.std.proofs.Common.{◌≡◌, ℕ, ◌-◌, Some}
use Rattle.map_theory.specs.Maps.{dart_count}
use Rattle.half_edges.specs.Map.{dart_at}
use Rattle.euler_faces.specs.Numbers.{number_at}
use Rattle.euler_faces.specs.FaceSearch.{AreWalked}
use Rattle.euler_faces.proofs.found_faces.Walking.add_vertex.Given as goal

abbrev pub invariant-round : goal.invariant-round
invariant-round l = record {
  dart : (u : ℕ) × (dart_at l.self.map.now l.d.0 ≡ Some (l.fn.v.0, u));
  walking : AreWalked l.self.map.now l.walks.items l.of (number_at l.self.map.now l.d.0);
}

abbrev pub decreases-round : goal.decreases-round
decreases-round l = dart_count l.self.map.now.lists - number_at l.self.map.now l.d.0
