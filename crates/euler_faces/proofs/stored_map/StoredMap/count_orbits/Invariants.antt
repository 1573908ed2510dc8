use Rattle.std.proofs.Common.{◌≡◌, length}
use Rattle.classes.proofs.Marks.{IsCounting}
use Rattle.map_lists.specs.Cuts.{cut}
use Rattle.map_theory.specs.Maps.{face_classes}
use Rattle.euler_faces.specs.Slots.{walked, HaveTwins}
use Rattle.euler_faces.proofs.stored_map.StoredMap.count_orbits.Given as goal

abbrev pub invariant-loop-d : goal.invariant-loop-d
invariant-loop-d l = record {
  long : length l.twins ≡ length l.self.entries.now;
  twins : HaveTwins (cut 0 l.self.ends.now l.self.entries.now) l.twins;
  counting : IsCounting (face_classes (cut 0 l.self.ends.now l.self.entries.now)) (walked l.twins) l.count l.d;
}
