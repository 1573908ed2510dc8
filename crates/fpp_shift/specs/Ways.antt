-- Ways along the links of a tree, and the sums of offsets on them.
use Rattle.std.specs.Prelude.{ℕ, ◌<◌, ◌≡◌, ◌≢◌, List, [], ◌∷◌, length, Some, ℤ, pos, ◌+ℤ◌}
use Rattle.pg_plane.specs.Range.{IsWithin}
use Rattle.pg_plane.specs.declared.grid_points.Point.{Point}
use Rattle.plane_drawings.specs.Drawing.{place}
use Rattle.fpp_shift.specs.declared.offset_trees.tree_nodes.Node.{Node}
use Rattle.fpp_shift.specs.Nodes.{node_at, left_of, right_of, LeadsTo}

-- the vertices us, one after another, are a way by links from v to u; where there are none, u is v
abbrev pub IsWay : List Node → ℕ → List ℕ → ℕ → Type 0
IsWay nodes v [] u = v ≡ u
IsWay nodes v (w ∷ us) u = LeadsTo nodes v w × IsWay nodes w us u

-- the sum of the nodes' x at some vertices
abbrev pub sum_x : List Node → List ℕ → ℤ
sum_x nodes [] = pos 0
sum_x nodes (v ∷ us) = (node_at nodes v).x +ℤ sum_x nodes us

-- The links make a tree with this first vertex: they lead from it to each vertex, to each other one by just one link, and to it by none. The sums of x on the ways from it, with both ends, are from -2^20 to 2^20.
pub record IsTree (nodes : List Node) (root : ℕ) : Type 0 where
  pub inside : root < length nodes
  pub within : (v u : ℕ) → v < length nodes → LeadsTo nodes v u → u < length nodes
  pub reached : (v : ℕ) → v < length nodes → (us : List ℕ) × IsWay nodes root us v
  pub once : (v w u : ℕ) → v < length nodes → w < length nodes → LeadsTo nodes v u → LeadsTo nodes w u → v ≡ w
  pub one_link : (v u w : ℕ) → v < length nodes → left_of nodes v ≡ Some u → right_of nodes v ≡ Some w → u ≢ w
  pub first : (v : ℕ) → v < length nodes → ¬ LeadsTo nodes v root
  pub small : (us : List ℕ) (v : ℕ) → IsWay nodes root us v → IsWithin (pos 1048576) (sum_x nodes (root ∷ us))

-- Each vertex stands where the offsets on the way from the root to it add up to, both of them included, and as high as its node says.
pub record ArePointsOf (nodes : List Node) (root : ℕ) (points : List Point) : Type 0 where
  pub count : length points ≡ length nodes
  pub across : (us : List ℕ) (v : ℕ) → v < length nodes → IsWay nodes root us v → (place points v).x ≡ sum_x nodes (root ∷ us)
  pub high : (v : ℕ) → v < length nodes → (place points v).y ≡ (node_at nodes v).y
