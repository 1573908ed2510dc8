use Rattle.map_lists.specs.Cuts.{cut}
use Rattle.bipolar.specs.FaceNumbers.{AreNumberedBelow}
use Rattle.bipolar.proofs.dual_orders.numbered_faces.RankedDarts.number_all.Given as goal

abbrev pub invariant-loop-d : goal.invariant-loop-d
invariant-loop-d l = AreNumberedBelow (cut 0 l.self.ends.now l.self.entries.now) l.self.rank.now l.self.twins.now l.of l.arcs.items l.arc_ends.items l.d
