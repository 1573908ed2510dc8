-- Witnesses all of whose paths are single edges, by their branches.
use Rattle.std.specs.Prelude.{ℕ, ◌<◌, ◌≡◌, ◌≢◌, Bool, true, ◌&&◌, nat_lt, nat_le, List, [], ◌∷◌, length, map, slice_index_or, Contains}
use Rattle.std.specs.List.{range_with_len}
use Rattle.map_lists.specs.declared.ids.VertexId.{VertexId}
use Rattle.graphs.specs.Graphs.{EdgeGraph, has_edge}
use Rattle.kuratowski.specs.Witnesses.{branch_count, pair_at}
use Rattle.kuratowski.specs.declared.witness.Kind.{Kind}
use Rattle.kuratowski.specs.declared.witness.Kind.TheVariants.{K5, K33}
use Rattle.embed_contraction.specs.Traces.{path_count}
use Rattle.embed_witnesses.specs.Kept.{IsPlain}

-- the vertex chosen for branch i
abbrev pub chosen_at : List ℕ → ℕ → ℕ
chosen_at chosen i = slice_index_or chosen i 0

-- the branches
abbrev pub plain_branch : Kind → List ℕ → List VertexId
plain_branch kind chosen = map (λ i. record { 0 = chosen_at chosen i }) (range_with_len 0 (branch_count kind))

-- path p is the edge between its two branches
abbrev pub plain_path : Kind → List ℕ → ℕ → List VertexId
plain_path kind chosen p =
    record { 0 = chosen_at chosen (pair_at kind p).0 } ∷ record { 0 = chosen_at chosen (pair_at kind p).1 } ∷ []

abbrev pub plain_paths : Kind → List ℕ → List (List VertexId)
plain_paths kind chosen = map (plain_path kind chosen) (range_with_len 0 (path_count kind))

-- branch i and the later one k are to be joined
abbrev pub is_pair : Kind → ℕ → ℕ → Bool
is_pair K5 i k = true
is_pair K33 i k = nat_lt i 3 && nat_le 3 k

-- the chosen vertices are the first branches
abbrev pub BeginsWith : List ℕ → (ℕ → ℕ) → Type 0
BeginsWith chosen branch = (i : ℕ) → i < length chosen → chosen_at chosen i ≡ branch i

-- no K5, or no K3,3, of the graph begins so
abbrev pub NoneBegins : EdgeGraph → Kind → List ℕ → Type 0
NoneBegins graph kind chosen = (branch : ℕ → ℕ) → IsPlain graph kind branch → ¬ BeginsWith chosen branch

-- none begins so with v as the next branch
abbrev pub NoneContinues : EdgeGraph → Kind → List ℕ → ℕ → Type 0
NoneContinues graph kind chosen v = (branch : ℕ → ℕ) → IsPlain graph kind branch → BeginsWith chosen branch → branch (length chosen) ≢ v

-- all vertices with edges are in the list
abbrev pub HasLive : EdgeGraph → List ℕ → Type 0
HasLive graph live = (u v : ℕ) → has_edge graph u v ≡ true → Contains live u
