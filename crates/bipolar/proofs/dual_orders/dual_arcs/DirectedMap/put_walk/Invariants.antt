use Rattle.std.proofs.Common.{take}
use Rattle.euler_faces.specs.FaceWalks.{ids_of}
use Rattle.bipolar.specs.FaceArcs.{ArePutRight}
use Rattle.bipolar.proofs.dual_orders.dual_arcs.DirectedMap.put_walk.Given as goal

abbrev pub invariant-loop-d : goal.invariant-loop-d
invariant-loop-d l = ArePutRight l.self.map.now l.faces l.self.rank.now (take l.d-index (ids_of l.d-items)) l.initial.entries.items l.entries.items
