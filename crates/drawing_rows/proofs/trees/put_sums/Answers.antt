use Rattle.std.proofs.Common.{ℕ, subst}
use Rattle.fpp_shift.specs.Ways.{IsTree}
use Rattle.fpp_shift.proofs.TreeLemmas.{vertex-is}
use Rattle.drawing_rows.proofs.trees.put_sums.Goals as goal

pub sum_offsets-requires : goal.sum_offsets-requires
sum_offsets-requires g c =
    subst (λ (v : ℕ). IsTree c.offset_tree.new.tree v) (vertex-is c.args.order.now.at 0 c.get.result c.get.ensures) c.offset_tree.ensures.links
