-- The nodes of a tree of offsets, and where its links lead.
use Rattle.std.specs.Prelude.{ℕ, ◌≡◌, ◌⊎◌, List, slice_index_or, Option, Some, None, option_map, pos}
use Rattle.fpp_shift.specs.declared.offset_trees.tree_nodes.Node.{Node}

-- a node of zeros and no links
abbrev pub empty_node : Node
empty_node = record { x = pos 0; y = pos 0; left = None; right = None }

-- the node of a vertex
abbrev pub node_at : List Node → ℕ → Node
node_at nodes v = slice_index_or nodes v empty_node

-- the vertices to which its links lead
abbrev pub left_of : List Node → ℕ → Option ℕ
left_of nodes v = option_map (λ u. u.0) (node_at nodes v).left

abbrev pub right_of : List Node → ℕ → Option ℕ
right_of nodes v = option_map (λ u. u.0) (node_at nodes v).right

-- a link leads from v to u
abbrev pub LeadsTo : List Node → ℕ → ℕ → Type 0
LeadsTo nodes v u = (left_of nodes v ≡ Some u) ⊎ (right_of nodes v ≡ Some u)
