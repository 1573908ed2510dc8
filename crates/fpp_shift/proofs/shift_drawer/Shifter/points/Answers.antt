use Rattle.std.proofs.Common.{ℕ, sym, ◌∙◌, subst}
use Rattle.canon_order.specs.Orders.{vertices_of}
use Rattle.fpp_shift.specs.Ways.{IsTree, ArePointsOf}
use Rattle.fpp_shift.proofs.TreeLemmas.{vertex-is}
use Rattle.fpp_shift.proofs.DrawLemmas.{AreShiftPoints-tree}
use Rattle.fpp_shift.proofs.shift_drawer.Shifter.points.Goals as goal

pub sum_offsets-requires : goal.sum_offsets-requires
sum_offsets-requires g c = subst (λ (v : ℕ). IsTree c.list_tree.new.tree v) (vertex-is c.args.order.now.at 0 c.get.result c.get.ensures) c.list_tree.ensures.links

pub returns : goal.returns
returns g c = λ base order.
    let at = vertices_of c.args.order.now in
    let lists = c.args.lists.now in
    let run = c.order_is_run.ensures lists base at c.requires.triangulation order in
    let count = c.list_tree.ensures.count ∙ c.in_ok-tree.ensures ∙ c.len.ensures.is in
    AreShiftPoints-tree c.offset_tree_adds_up.ensures lists base at c.list_tree.new.tree c.in_ok-points.points c.requires.triangulation c.len.ensures.few order run.0 run.1 count c.list_tree.ensures.tree
    (subst (λ (v : ℕ). ArePointsOf c.list_tree.new.tree v c.in_ok-points.points) (sym (vertex-is c.args.order.now.at 0 c.get.result c.get.ensures)) c.in_ok-points.ensures.points)
