-- The verdict on a witness: the first kind of fault that it has, with the least numbers; these are counted from 1.
use Rattle.std.specs.Prelude.{ℕ, ◌-◌, ◌<◌, ◌≤◌, List}
use Rattle.map_lists.specs.declared.ids.VertexId.{VertexId}
use Rattle.graphs.specs.Graphs.{EdgeGraph}
use Rattle.kuratowski.specs.Witnesses.{IsShape, IsWitness}
use Rattle.kuratowski.specs.Faults.{IsBadBranch, LacksEdge, IsShared}
use Rattle.kuratowski.specs.declared.witness.Kind.{Kind}
use Rattle.kuratowski.specs.declared.check.WitnessVerdict.{WitnessVerdict}
use Rattle.kuratowski.specs.declared.check.WitnessVerdict.TheVariants.{BadShape, BadBranch, NotEdge, Shared, Yes}

-- x is the least number with the property P
pub record IsLeast (P : ℕ → Type 0) (x : ℕ) : Type 0 where
  pub here : P x
  pub before : (y : ℕ) → y < x → ¬ P y

-- (x, y) is the least pair with the property P: by the first number, then by the second
pub record IsLeastPair (P : ℕ → ℕ → Type 0) (x y : ℕ) : Type 0 where
  pub before : (z w : ℕ) → z < x → ¬ P z w
  pub rest : IsLeast (P x) y

-- (x, y, z) is the least triple with the property P, by its numbers in turn
pub record IsLeastTriple (P : ℕ → ℕ → ℕ → Type 0) (x y z : ℕ) : Type 0 where
  pub before : (w s t : ℕ) → w < x → ¬ P w s t
  pub rest : IsLeastPair (P x) y z

-- no branch is bad
abbrev pub NoBadBranch : ℕ → List VertexId → Type 0
NoBadBranch n branch = (i : ℕ) → ¬ IsBadBranch n branch i

-- each step of each path is an edge of the graph
abbrev pub LacksNone : EdgeGraph → List (List VertexId) → Type 0
LacksNone graph paths = (p i : ℕ) → ¬ LacksEdge graph paths p i

-- The verdict is the first fault: of the shape, of a branch, of a step of a path, of a vertex that two paths share. It has the least numbers; or it is `Yes`, and the witness is one of the graph.
abbrev pub IsVerdict : EdgeGraph → Kind → List VertexId → List (List VertexId) → WitnessVerdict → Type 0
IsVerdict graph kind branch paths BadShape = ¬ IsShape kind branch paths
IsVerdict graph kind branch paths (BadBranch i) = IsShape kind branch paths × (1 ≤ i) × IsLeast (IsBadBranch graph.n branch) (i - 1)
IsVerdict graph kind branch paths (NotEdge p i) =
    IsShape kind branch paths × NoBadBranch graph.n branch × (1 ≤ p) × (1 ≤ i) × IsLeastPair (LacksEdge graph paths) (p - 1) (i - 1)
IsVerdict graph kind branch paths (Shared p q v) =
    IsShape kind branch paths × NoBadBranch graph.n branch × LacksNone graph paths × (1 ≤ p) × (1 ≤ q) × IsLeastTriple (IsShared branch paths) (p - 1) (q - 1) v.0
IsVerdict graph kind branch paths Yes = IsWitness graph kind branch paths
