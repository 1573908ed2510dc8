use Rattle.std.proofs.Common.{◌≡◌, ◌<◌, length}
use Rattle.classes.proofs.Marks.{IsMarking, unmarked_below}
use Rattle.map_lists.specs.Cuts.{cut}
use Rattle.map_theory.specs.Maps.{face_images}
use Rattle.euler_faces.specs.Numbers.{mark_at}
use Rattle.euler_faces.specs.Search.{IsNumberedBy}
use Rattle.euler_faces.specs.FaceSearch.{no_face, with_face}
use Rattle.bipolar.specs.FaceNumbers.{ArePutTwins}
use Rattle.bipolar.proofs.dual_orders.numbered_faces.RankedDarts.walk_face.Given as goal

abbrev pub invariant-loop-of : goal.invariant-loop-of
invariant-loop-of l = record {
  size : length l.of ≡ length l.self.entries.now;
  d_in : l.d < length l.self.entries.now;
  marking : IsMarking (face_images (cut 0 l.self.ends.now l.self.entries.now)) (mark_at (with_face l.initial.of)) (mark_at (with_face l.of)) l.fn.start l.d;
  numbered : IsNumberedBy no_face l.initial.of l.of l.fn.f;
  put : ArePutTwins (cut 0 l.self.ends.now l.self.entries.now) l.self.rank.now l.self.twins.now l.initial.of l.of l.initial.arcs.items l.arcs.items;
}

abbrev pub decreases-loop-of : goal.decreases-loop-of
decreases-loop-of l = unmarked_below (mark_at (with_face l.of)) (length l.self.entries.now)
