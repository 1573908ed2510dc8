-- How far the links of a tree have been gone along.
use Rattle.std.specs.Prelude.{ℕ, ◌+◌, ◌*◌, ◌<◌, ◌≡◌, ◌⊎◌, Bool, if◌then◌else◌, List, ◌∷◌, length, slice_index, Option, Some, ℤ, ◌+ℤ◌}
use Rattle.fpp_shift.specs.declared.offset_trees.tree_nodes.Node.{Node}
use Rattle.fpp_shift.specs.Nodes.{node_at, left_of, right_of}
use Rattle.pg_plane.specs.declared.grid_points.Point.{Point}
use Rattle.plane_drawings.specs.Drawing.{place}
use Rattle.fpp_shift.specs.Ways.{IsWay, sum_x}

-- the right link of a vertex, or its left one
abbrev pub link_of : List Node → Bool → ℕ → Option ℕ
link_of nodes is_right v = if is_right then right_of nodes v else left_of nodes v

-- the number of a link of the vertex at place i, where each vertex has two
abbrev pub link_number : ℕ → Bool → ℕ
link_number i is_right = 2 * i + (if is_right then 1 else 0)

-- u is one of the vertices that were met
abbrev pub IsMet : List ℕ → ℕ → Type 0
IsMet met u = (i : ℕ) × (i < length met) × (slice_index met i ≡ u)

-- the vertex at place i was met, and this link of it is among the first h
abbrev pub IsGone : List ℕ → ℕ → ℕ → Bool → Type 0
IsGone met h i is_right = (i < length met) × (link_number i is_right < h)

-- u is met by one of the first h links
pub record IsLinked (nodes : List Node) (met : List ℕ) (h u : ℕ) : Type 0 where
  pub place : ℕ
  pub is_right : Bool
  pub gone : IsGone met h place is_right
  pub leads : link_of nodes is_right (slice_index met place) ≡ Some u

-- how far to the right the point of a vertex is
abbrev pub sum_at : List Point → ℕ → ℤ
sum_at points v = (place points v).x

-- the point of a node that no other leads to
abbrev pub own_point : Node → Point
own_point node = record { x = node.x; y = node.y }

-- the point of a node to which one at this point leads
abbrev pub point_beside : Point → Node → Point
point_beside from node = record { x = from.x +ℤ node.x; y = node.y }

-- The first h links of the vertices met have been gone along. Those met are the root and the vertices to which these links lead, each once. Their points are known: the sums of x on the ways to them, and the heights of their nodes.
pub record AreMet (nodes : List Node) (root : ℕ) (met : List ℕ) (points : List Point) (h : ℕ) : Type 0 where
  pub apart : (i j : ℕ) → i < length met → j < length met → slice_index met i ≡ slice_index met j → i ≡ j
  pub inside : (u : ℕ) → IsMet met u → u < length nodes
  pub begins : IsMet met root
  pub linked : (u : ℕ) → IsMet met u → (u ≡ root) ⊎ IsLinked nodes met h u
  pub closed : (u : ℕ) → IsLinked nodes met h u → IsMet met u
  pub added : (us : List ℕ) (u : ℕ) → IsMet met u → IsWay nodes root us u → sum_at points u ≡ sum_x nodes (root ∷ us)
  pub high : (u : ℕ) → IsMet met u → (place points u).y ≡ (node_at nodes u).y

-- v stands at the place i of those met, and this link of it is the next to be gone along
pub record IsNext (nodes : List Node) (met : List ℕ) (h v : ℕ) (link : Option ℕ) : Type 0 where
  pub place : ℕ
  pub is_right : Bool
  pub within : place < length met
  pub vertex : slice_index met place ≡ v
  pub number : link_number place is_right ≡ h
  pub link_is : link_of nodes is_right v ≡ link
