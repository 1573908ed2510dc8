-- A write to one node.
use Rattle.std.proofs.Common.{◌≡◌, ℕ, ◌<◌, List, length, set, length-set, get_or-set_same, get_or-set_other, Option, option_map, ℤ, refl, sym, ap, subst, ◌∙◌, inl, inr}
use Rattle.std.proofs.lemmas.Bool.{cases_eq}
use Rattle.map_lists.specs.declared.ids.VertexId.{VertexId}
use Rattle.fpp_shift.specs.declared.offset_trees.tree_nodes.Node.{Node}
use Rattle.fpp_shift.specs.Nodes.{empty_node, node_at}
use Rattle.fpp_shift.specs.Writes.{SetsX, SetsRight, SetsNode}

pub SetsNode-set : (nodes nodes' : List Node) (u : ℕ) (node : Node) → u < length nodes → nodes' ≡ set nodes u node → SetsNode nodes nodes' u node
SetsNode-set nodes nodes' u node l is = record {
  here = ap (λ (ns : List Node). node_at ns u) is ∙ get_or-set_same nodes u node empty_node l;
  others = λ w ne. ap (λ (ns : List Node). node_at ns w) is ∙ get_or-set_other nodes u w node empty_node ne;
  count = ap (length {A = Node}) is ∙ length-set nodes u node;
}

-- a fact of all nodes, by the one that was set
each-node : (P : Node → Node → Type 0) (nodes nodes' : List Node) (u : ℕ) (node : Node) → SetsNode nodes nodes' u node → P node (node_at nodes u) → ((n : Node) → P n n) → (w : ℕ) → P (node_at nodes' w) (node_at nodes w)
each-node P nodes nodes' u node sets here same w = elim (cases_eq w u) [
  | inl e ↦ subst (λ (w : ℕ). P (node_at nodes' w) (node_at nodes w)) (sym e) (subst (λ (n : Node). P n (node_at nodes u)) (sym sets.here) here)
  | inr ne ↦ subst (λ (n : Node). P n (node_at nodes w)) (sym (sets.others w ne)) (same (node_at nodes w))
]

pub SetsX-set : (nodes nodes' : List Node) (u : ℕ) (x : ℤ) (node : Node) → u < length nodes → node ≡ node_at nodes u → nodes' ≡ set nodes u (record node { x = x }) → SetsX nodes nodes' u x
SetsX-set nodes nodes' u x node l at is =
    let sets = SetsNode-set nodes nodes' u (record node { x = x }) l is in
    record {
      here = ap (λ (n : Node). n.x) sets.here;
      xs = λ w ne. ap (λ (n : Node). n.x) (sets.others w ne);
      ys = each-node (λ (n m : Node). n.y ≡ m.y) nodes nodes' u (record node { x = x }) sets (ap (λ (n : Node). n.y) at) (λ n. refl);
      lefts = each-node (λ (n m : Node). option_map (λ v. v.0) n.left ≡ option_map (λ v. v.0) m.left) nodes nodes' u (record node { x = x }) sets (ap (λ (n : Node). option_map (λ v. v.0) n.left) at) (λ n. refl);
      rights = each-node (λ (n m : Node). option_map (λ v. v.0) n.right ≡ option_map (λ v. v.0) m.right) nodes nodes' u (record node { x = x }) sets (ap (λ (n : Node). option_map (λ v. v.0) n.right) at) (λ n. refl);
      count = sets.count;
    }

pub SetsRight-set : (nodes nodes' : List Node) (u : ℕ) (link : Option VertexId) (node : Node) → u < length nodes → node ≡ node_at nodes u → nodes' ≡ set nodes u (record node { right = link }) → SetsRight nodes nodes' u (option_map (λ v. v.0) link)
SetsRight-set nodes nodes' u link node l at is =
    let sets = SetsNode-set nodes nodes' u (record node { right = link }) l is in
    record {
      here = ap (λ (n : Node). option_map (λ v. v.0) n.right) sets.here;
      rights = λ w ne. ap (λ (n : Node). option_map (λ v. v.0) n.right) (sets.others w ne);
      xs = each-node (λ (n m : Node). n.x ≡ m.x) nodes nodes' u (record node { right = link }) sets (ap (λ (n : Node). n.x) at) (λ n. refl);
      ys = each-node (λ (n m : Node). n.y ≡ m.y) nodes nodes' u (record node { right = link }) sets (ap (λ (n : Node). n.y) at) (λ n. refl);
      lefts = each-node (λ (n m : Node). option_map (λ v. v.0) n.left ≡ option_map (λ v. v.0) m.left) nodes nodes' u (record node { right = link }) sets (ap (λ (n : Node). option_map (λ v. v.0) n.left) at) (λ n. refl);
      count = sets.count;
    }
