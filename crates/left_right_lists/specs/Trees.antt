-- Depth-first trees of graphs, as tables. Where a graph has several parts, edges from the root to a vertex of each other part make them one tree.
use Rattle.std.specs.Prelude.{ℕ, ◌+◌, ◌<◌, ◌≤◌, ◌≡◌, Bool, ◌||◌, not, eqb, ◌&&◌, cond, List, length, slice_index}
use Rattle.map_lists.specs.Lists.{Lists}
use Rattle.graphs.specs.Graphs.{EdgeGraph, has_edge}
use Rattle.plane_laws.specs.Kept.{with_kept}
use Rattle.left_right_laws.specs.Forests.{up, IsLeftRight}
use Rattle.left_right_maps.specs.Orders.{IsEdge}
use Rattle.left_right_maps.specs.RootedMaps.{in_tree}
use Rattle.left_right_maps.specs.Graphs.{IsMapOfEdges}
use Rattle.left_right_maps.specs.Trees.{IsDepthFirstTree}
use Rattle.embed_theorem.specs.Expanded.{IsMapOf}
use Rattle.left_right_lists.specs.declared.tree.Tree.{Tree}

-- a table has the values of a function below n
pub record IsTabled (f : ℕ → ℕ) (table : List ℕ) (n : ℕ) : Type 0 where
  pub long : length table ≡ n
  pub at : (v : ℕ) → v < n → slice_index table v ≡ f v

-- whether a vertex of a forest is in another tree than a root
abbrev pub is_in_other_tree : List ℕ → List ℕ → ℕ → ℕ → Bool
is_in_other_tree parents depths root v = not (eqb (up (slice_index parents) (slice_index depths v) v) root)

-- the depth of a vertex in the tree made of a forest, in which the roots of the other trees become children of the root
abbrev pub grown_depth : List ℕ → List ℕ → ℕ → ℕ → ℕ
grown_depth parents depths root v = slice_index depths v + cond (is_in_other_tree parents depths root v) 1 0

-- the parent of a vertex in that tree
abbrev pub grown_parent : List ℕ → List ℕ → ℕ → ℕ → ℕ
grown_parent parents depths root v =
    cond (eqb (slice_index depths v) 0 && is_in_other_tree parents depths root v) root (slice_index parents v)

-- an edge of a graph or of a tree joins u and v
abbrev pub joined : EdgeGraph → List ℕ → List ℕ → ℕ → ℕ → Bool
joined graph parents depths u v = has_edge graph u v || in_tree (slice_index parents) (slice_index depths) u v

-- sides of the edges that return, by which a graph is parted into left and right
abbrev pub AreSides : EdgeGraph → List ℕ → List ℕ → (ℕ → ℕ → Bool) → Type 0
AreSides graph parents depths left = IsLeftRight (IsEdge (joined graph parents depths)) (slice_index parents) (slice_index depths) left

-- Tables of a depth-first tree of a graph with the tree's edges. Each vertex comes behind its parent in an order, in which each has a number.
pub record AreOfTree (graph : EdgeGraph) (root : ℕ) (order number parents depths : List ℕ) : Type 0 where
  pub tree : IsDepthFirstTree graph.n (joined graph parents depths) (slice_index parents) (slice_index depths) root
  pub parted : (lists : Lists) → IsMapOf lists graph → (left : ℕ → ℕ → Bool) × AreSides graph parents depths left
  pub kept : (whole : Lists) → IsMapOfEdges graph.n (joined graph parents depths) whole → IsMapOf (with_kept (has_edge graph) whole) graph
  pub few : graph.n ≤ 255
  pub parents_long : length parents ≡ graph.n
  pub depths_long : length depths ≡ graph.n
  pub order_long : length order ≡ graph.n
  pub number_long : length number ≡ graph.n
  pub numbered : (v : ℕ) → v < graph.n → slice_index number v < graph.n
  pub own : (v : ℕ) → v < graph.n → slice_index order (slice_index number v) ≡ v
  pub vertex : (k : ℕ) → k < graph.n → slice_index order k < graph.n
  pub place : (k : ℕ) → k < graph.n → slice_index number (slice_index order k) ≡ k
  pub rising : (v : ℕ) → 0 < slice_index depths v → slice_index number (slice_index parents v) < slice_index number v

-- `AreOfTree`, of a tree as the code holds it
abbrev pub IsTreeOf : EdgeGraph → Tree → Type 0
IsTreeOf graph tree = AreOfTree graph tree.root tree.order.items tree.number.items tree.parents.items tree.depths.items
