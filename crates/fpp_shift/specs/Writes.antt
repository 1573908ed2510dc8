-- What a write to one node of a tree leaves.
use Rattle.std.specs.Prelude.{ℕ, ◌≡◌, ◌≢◌, List, length, Option, ℤ}
use Rattle.fpp_shift.specs.declared.offset_trees.tree_nodes.Node.{Node}
use Rattle.fpp_shift.specs.Nodes.{node_at, left_of, right_of}

-- the node of u has this offset, and all else is as before
pub record SetsX (nodes nodes' : List Node) (u : ℕ) (x : ℤ) : Type 0 where
  pub here : (node_at nodes' u).x ≡ x
  pub xs : (w : ℕ) → w ≢ u → (node_at nodes' w).x ≡ (node_at nodes w).x
  pub ys : (w : ℕ) → (node_at nodes' w).y ≡ (node_at nodes w).y
  pub lefts : (w : ℕ) → left_of nodes' w ≡ left_of nodes w
  pub rights : (w : ℕ) → right_of nodes' w ≡ right_of nodes w
  pub count : length nodes' ≡ length nodes

-- its right link leads there, and all else is as before
pub record SetsRight (nodes nodes' : List Node) (u : ℕ) (link : Option ℕ) : Type 0 where
  pub here : right_of nodes' u ≡ link
  pub rights : (w : ℕ) → w ≢ u → right_of nodes' w ≡ right_of nodes w
  pub xs : (w : ℕ) → (node_at nodes' w).x ≡ (node_at nodes w).x
  pub ys : (w : ℕ) → (node_at nodes' w).y ≡ (node_at nodes w).y
  pub lefts : (w : ℕ) → left_of nodes' w ≡ left_of nodes w
  pub count : length nodes' ≡ length nodes

-- it is this node, and all others are as before
pub record SetsNode (nodes nodes' : List Node) (u : ℕ) (node : Node) : Type 0 where
  pub here : node_at nodes' u ≡ node
  pub others : (w : ℕ) → w ≢ u → node_at nodes' w ≡ node_at nodes w
  pub count : length nodes' ≡ length nodes
