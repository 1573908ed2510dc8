use Rattle.fpp_shift.proofs.GrownLemmas.{IsOffsetTree-grown}
use Rattle.fpp_shift.proofs.offset_trees.grown_is_offset_tree.Goals as goal

pub returns : goal.returns
returns c = IsOffsetTree-grown
