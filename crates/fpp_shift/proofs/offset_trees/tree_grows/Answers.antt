use Rattle.fpp_shift.proofs.GrownLemmas.{IsGrown-after}
use Rattle.fpp_shift.proofs.offset_trees.tree_grows.Goals as goal

pub returns : goal.returns
returns c = λ name steps n t t' run grown wrote. IsGrown-after name steps n run t t' grown wrote
