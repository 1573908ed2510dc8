-- A contour as two stacks: what stands before a place, and what stands behind it, the last first.
use Rattle.std.specs.Prelude.{ℕ, suc, ◌<◌, ◌≡◌, List, ◌++◌, length, reverse, slice_index}
use Rattle.map_lists.specs.Lists.{Lists}
use Rattle.map_theory.specs.Maps.{HasDart}
use Rattle.convex_orders.specs.declared.contour.Contour.{Contour}
use Rattle.convex_orders.specs.FaceNumbers.{entry}

abbrev pub contour_of : List ℕ → List ℕ → List ℕ
contour_of left right = left ++ reverse right

abbrev pub vertices_of : Contour → List ℕ
vertices_of contour = contour_of contour.left.items contour.right.items

-- the numbers of a list are below n
abbrev pub AreWithin : List ℕ → ℕ → Type 0
AreWithin ws n = (i : ℕ) → i < length ws → slice_index ws i < n

-- from each vertex of the list to the one before it there is a dart
abbrev pub AreEdges : Lists → List ℕ → Type 0
AreEdges lists ws = (i : ℕ) → suc i < length ws → HasDart lists (slice_index ws (suc i)) (slice_index ws i)

-- the number of the dart back along the edge from place i on
abbrev pub inner_number : Lists → Lists → List ℕ → ℕ → ℕ
inner_number lists own ws i = entry lists own (slice_index ws (suc i)) (slice_index ws i)

-- what a table over the vertices has for that at place i
abbrev pub number_at : List ℕ → List ℕ → ℕ → ℕ
number_at table ws i = slice_index table (slice_index ws i)

-- the number of an edge is that of the dart back: the face inside
pub record AreInner (lists own : Lists) (ws table : List ℕ) : Type 0 where
  pub long : length table ≡ length lists
  pub vertices : AreWithin ws (length lists)
  pub edges : AreEdges lists ws
  pub numbers : (i : ℕ) → suc i < length ws → number_at table ws i ≡ inner_number lists own ws i
