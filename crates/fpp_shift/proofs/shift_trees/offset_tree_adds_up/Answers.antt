use Rattle.fpp_shift.proofs.PointLemmas.{AddsUp-order}
use Rattle.fpp_shift.proofs.shift_trees.offset_tree_adds_up.Goals as goal

pub returns : goal.returns
returns c = AddsUp-order
