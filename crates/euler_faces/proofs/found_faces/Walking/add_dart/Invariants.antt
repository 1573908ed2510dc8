use Rattle.std.proofs.Common.{◌≡◌, ℕ, ◌<◌, length, get_or}
use Rattle.map_theory.specs.Maps.{dart_count}
use Rattle.half_edges.specs.Map.{id_bound}
use Rattle.euler_faces.specs.Numbers.{mark_of}
use Rattle.euler_faces.specs.Search.{IsNumberedBy}
use Rattle.euler_faces.specs.FaceSearch.{no_face, with_face}
use Rattle.classes.proofs.Marks.{unmarked_below}
use Rattle.euler_faces.proofs.FaceWalkLemmas.{IsWalking}
use Rattle.euler_faces.proofs.found_faces.Walking.add_dart.Given as goal

abbrev pub invariant-loop-of : goal.invariant-loop-of
invariant-loop-of l = record {
  size : length l.of ≡ id_bound l.self.map.now;
  walking : IsWalking l.self.map.now (mark_of l.self.map.now (with_face l.initial.of)) (mark_of l.self.map.now (with_face l.of)) l.walk l.fn.start.0 l.d.0;
  numbered : IsNumberedBy no_face l.initial.of l.of l.f;
  here : (i : ℕ) → i < length l.walk → get_or l.of (get_or l.walk i 0) 0 ≡ l.f;
}

abbrev pub decreases-loop-of : goal.decreases-loop-of
decreases-loop-of l = unmarked_below (mark_of l.self.map.now (with_face l.of)) (dart_count l.self.map.now.lists)
