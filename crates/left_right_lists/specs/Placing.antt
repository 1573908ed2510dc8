-- A vertex placed where all vertices of a later number are, and lists of a graph from the entries of all.
use Rattle.std.specs.Prelude.{ℕ, ◌-◌, ◌<◌, ◌≡◌, Bool, true, false, cond, not, eqb, List, ◌∷◌, ◌++◌, length, slice_index, slice_index_or, filter, []}
use Rattle.map_lists.specs.Lists.{Lists}
use Rattle.map_theory.specs.Maps.{Dart}
use Rattle.graphs.specs.Graphs.{EdgeGraph, has_edge}
use Rattle.left_right_maps.specs.RootedMaps.{is_child}
use Rattle.left_right_lists.specs.Trees.{joined}
use Rattle.left_right_lists.specs.Orders.{IsOrderOf}
use Rattle.left_right_lists.specs.Blocks.{is_item, returned, block, opens_in, AreValues}
use Rattle.left_right_lists.specs.declared.tree.Tree.{Tree}

abbrev pub is_item_at : EdgeGraph → Tree → ℕ → ℕ → Bool
is_item_at graph tree v u =
    is_item (joined graph tree.parents.items tree.depths.items) (slice_index tree.parents.items) (slice_index tree.depths.items) v u

abbrev pub returned_at : ℕ → Tree → List (List Dart) → ℕ → ℕ → List Dart
returned_at n tree opens v u =
    returned (slice_index tree.parents.items) (slice_index tree.depths.items) (opens_in n tree.number.items opens) v u

abbrev pub block_at : ℕ → Tree → List (List Dart) → ℕ → ℕ → List ℕ
block_at n tree opens v u =
    block (slice_index tree.parents.items) (slice_index tree.depths.items) (opens_in n tree.number.items opens) v u

-- tables of which vertices v's edges lead to that go to children or return, and of what returns by each
pub record AreTablesAt (graph : EdgeGraph) (tree : Tree) (opens : List (List Dart)) (v : ℕ) (marks : List Bool) (rows : List (List Dart)) : Type 0 where
  pub marked : AreValues (is_item_at graph tree v) false marks graph.n
  pub filled : AreValues (returned_at graph.n tree opens v) [] rows graph.n

-- what waits below the children of v is in a table
abbrev pub HasChildren : ℕ → Tree → List (List Dart) → ℕ → Type 0
HasChildren n tree opens v =
    (u : ℕ) → is_child (slice_index tree.parents.items) (slice_index tree.depths.items) v u ≡ true → n - 1 - slice_index tree.number.items u < length opens

-- v's edges can be put in order
abbrev pub IsReady : EdgeGraph → Tree → List Bool → List (List Dart) → ℕ → Type 0
IsReady graph tree sides opens v =
    (marks : List Bool) (rows : List (List Dart)) → AreTablesAt graph tree opens v marks rows → (us : List ℕ) × IsOrderOf tree.depths.items sides rows marks us

-- these are v's edges in order
pub record IsOrderAt (graph : EdgeGraph) (tree : Tree) (sides : List Bool) (opens : List (List Dart)) (v : ℕ) (us : List ℕ) : Type 0 where
  pub marks : List Bool
  pub rows : List (List Dart)
  pub tables : AreTablesAt graph tree opens v marks rows
  pub order : IsOrderOf tree.depths.items sides rows marks us

-- the entries of a vertex, in a table in which those of the last vertices come first, and its whole list
abbrev pub entries_in : ℕ → Tree → List (List ℕ) → ℕ → List ℕ
entries_in n tree entries v = slice_index_or entries (n - 1 - slice_index tree.number.items v) []

abbrev pub row_at : ℕ → Tree → List (List ℕ) → ℕ → List ℕ
row_at n tree entries v =
    cond (not (eqb v tree.root)) (entries_in n tree entries v ++ slice_index tree.parents.items v ∷ []) (entries_in n tree entries v)

-- lists of the entries that are edges of the graph
abbrev pub AreRows : EdgeGraph → Tree → List (List ℕ) → Lists → Type 0
AreRows graph tree entries lists =
    AreValues (λ v. filter (has_edge graph v) (row_at graph.n tree entries v)) [] lists graph.n
