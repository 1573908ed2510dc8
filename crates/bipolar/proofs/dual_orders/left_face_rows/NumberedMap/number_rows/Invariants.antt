use Rattle.std.proofs.Common.{◌≡◌, length}
use Rattle.map_theory.specs.Maps.{list_of}
use Rattle.bipolar.specs.FaceArcs.{AreLeftNumbers}
use Rattle.bipolar.proofs.CutRows.{AreRowsCut}
use Rattle.bipolar.proofs.dual_orders.left_face_rows.NumberedMap.number_rows.Given as goal

abbrev pub invariant-loop-v : goal.invariant-loop-v
invariant-loop-v l = AreRowsCut (λ u row. (length row ≡ length (list_of l.self.map.now.lists u)) × AreLeftNumbers l.self.map.now l.self.faces.now l.self.rank.now l.self.numbers.now u row) l.v l.ends.items l.entries.items
