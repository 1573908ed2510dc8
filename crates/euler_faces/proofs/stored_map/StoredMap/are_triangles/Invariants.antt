use Rattle.std.proofs.Common.{◌≡◌, ◌-◌, ◌∷◌, cond, eqb, get_or}
use Rattle.map_lists.specs.Cuts.{cut}
use Rattle.euler_faces.specs.Corners.{AreCornersBelow}
use Rattle.euler_faces.proofs.stored_map.StoredMap.are_triangles.Given as goal

abbrev pub invariant-loop-v : goal.invariant-loop-v
invariant-loop-v l = record {
  start_is : l.start ≡ get_or (0 ∷ l.self.ends.now) l.v 0;
  corners : AreCornersBelow (cut 0 l.self.ends.now l.self.entries.now) l.start;
}

abbrev pub invariant-loop-d : goal.invariant-loop-d
invariant-loop-d l = record {
  before_is : l.before ≡ get_or l.self.entries.now (cond (eqb l.d l.start) (l.behind - 1) (l.d - 1)) 0;
  corners : AreCornersBelow (cut 0 l.self.ends.now l.self.entries.now) l.d;
}
