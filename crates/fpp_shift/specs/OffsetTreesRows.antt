-- Rows of vertices along right links.
use Rattle.std.specs.Prelude.{ℕ, zero, suc, ◌<◌, ◌≤◌, ◌≡◌, ◌≢◌, List, length, Some, ℤ, pos, ◌+ℤ◌}
use Rattle.pg_plane.specs.Range.{IsWithin}
use Rattle.fpp_shift.specs.declared.offset_trees.tree_nodes.Node.{Node}
use Rattle.fpp_shift.specs.Nodes.{node_at, right_of}

-- how far number i of a row stands to the right of number 0
abbrev pub far : List Node → (ℕ → ℕ) → ℕ → ℤ
far nodes row zero = pos 0
far nodes row (suc i) = far nodes row i +ℤ (node_at nodes (row (suc i))).x

-- Right links lead along the row from p, its number 0, to q, its number m, which comes at the end alone; no vertex of it is far from p.
pub record IsRow (nodes : List Node) (row : ℕ → ℕ) (m p q : ℕ) : Type 0 where
  pub begin : row 0 ≡ p
  pub end : row m ≡ q
  pub some : 1 ≤ m
  pub short : m ≤ length nodes
  pub inside : (i : ℕ) → i ≤ m → row i < length nodes
  pub links : (i : ℕ) → i < m → right_of nodes (row i) ≡ Some (row (suc i))
  pub apart : (i : ℕ) → i < m → row i ≢ q
  pub near : (i : ℕ) → i ≤ m → IsWithin (pos 1048576) (far nodes row i)
