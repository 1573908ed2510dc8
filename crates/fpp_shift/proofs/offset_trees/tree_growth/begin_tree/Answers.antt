use Rattle.std.proofs.Common.{ap, option_map}
use Rattle.map_lists.specs.declared.ids.VertexId.{VertexId}
use Rattle.fpp_shift.specs.declared.offset_trees.tree_nodes.Node.{Node}
use Rattle.fpp_shift.proofs.PutLemmas.{grown-begun}
use Rattle.fpp_shift.proofs.offset_trees.tree_growth.begin_tree.Goals as goal

pub returns-clause-grown : goal.returns-clause-grown
returns-clause-grown g c =
    let a = c.node_with.ensures in
    let b = c.node_with-2.ensures in
    λ at run first second. grown-begun at run _ _ _ _ _ _ _ c.requires.apart first second c.set_node.ensures.set c.set_node-2.ensures.set (ap (λ (n : Node). n.x) a, ap (λ (n : Node). n.y) a) (ap (λ (n : Node). n.x) b, ap (λ (n : Node). n.y) b) (ap (λ (n : Node). n.left) a)
    (ap (λ (n : Node). option_map (λ (u : VertexId). u.0) n.right) a) (ap (λ (n : Node). n.left) b) (ap (λ (n : Node). n.right) b)
