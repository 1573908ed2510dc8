use Rattle.std.proofs.Common.{◌≡◌, ◌<◌, length}
use Rattle.classes.proofs.Marks.{IsMarking, unmarked_below}
use Rattle.map_lists.specs.Cuts.{cut}
use Rattle.map_theory.specs.Maps.{face_images}
use Rattle.euler_faces.specs.Slots.{walked, HaveTwins}
use Rattle.euler_faces.proofs.stored_map.StoredMap.walk_face.Given as goal

abbrev pub invariant-loop-twins : goal.invariant-loop-twins
invariant-loop-twins l = record {
  count : length l.twins ≡ length l.self.entries.now;
  in_twins : l.d < length l.self.entries.now;
  twins : HaveTwins (cut 0 l.self.ends.now l.self.entries.now) l.twins;
  marking : IsMarking (face_images (cut 0 l.self.ends.now l.self.entries.now)) (walked l.initial.twins) (walked l.twins) l.fn.start l.d;
}

abbrev pub decreases-loop-twins : goal.decreases-loop-twins
decreases-loop-twins l = unmarked_below (walked l.twins) (length l.self.entries.now)
