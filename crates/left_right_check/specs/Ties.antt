-- Sides that edges of a graph have in each partition into left and right.
use Rattle.std.specs.Prelude.{ℕ, ◌≡◌, Bool, true, not, if◌then◌else◌, List, slice_index}
use Rattle.map_lists.specs.Lists.{Lists}
use Rattle.graphs.specs.Graphs.{EdgeGraph, has_edge}
use Rattle.left_right_laws.specs.Forests.{IsForest, IsReturn, IsLeftRight}
use Rattle.embed_theorem.specs.Expanded.{IsMapOf}

-- an edge of a graph joins u and v
abbrev pub IsJoined : EdgeGraph → ℕ → ℕ → Type 0
IsJoined graph u v = has_edge graph u v ≡ true

-- tables of parents and depths by vertex are those of a rooted forest of a graph
abbrev pub IsForestOf : EdgeGraph → List ℕ → List ℕ → Type 0
IsForestOf graph parents depths = IsForest (IsJoined graph) (slice_index parents) (slice_index depths)

-- the edge from t to w returns from v by v's edge to e
abbrev pub ReturnsBy : EdgeGraph → List ℕ → List ℕ → ℕ → ℕ → ℕ → ℕ → Type 0
ReturnsBy graph parents depths v e t w = IsReturn (IsJoined graph) (slice_index parents) (slice_index depths) v e t w

-- a side that is the other one or not
abbrev pub turned : Bool → Bool → Bool
turned turn side = if turn then not side else side

-- in each partition of the returning edges into left and right, the edges from t to w and from s to z are on different sides, or on one
abbrev pub AreTied : EdgeGraph → List ℕ → List ℕ → Bool → ℕ → ℕ → ℕ → ℕ → Type 0
AreTied graph parents depths turn t w s z =
    (left : ℕ → ℕ → Bool) → IsLeftRight (IsJoined graph) (slice_index parents) (slice_index depths) left → left t w ≡ turned turn (left s z)

-- a graph has no map of genus zero
abbrev pub HasNoMap : EdgeGraph → Type 0
HasNoMap graph = (lists : Lists) → ¬ IsMapOf lists graph
