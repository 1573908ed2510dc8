-- Lists with an edge more.
use Rattle.std.specs.Prelude.{ℕ, ◌+◌, ◌==◌, if◌then◌else◌, ◌<◌, ◌≤◌, ◌≡◌, ◌≢◌, ◌⊎◌, List, length, slice_set, slice_index_or, insert}
use Rattle.map_lists.specs.Lists.{Lists}
use Rattle.map_theory.specs.Maps.{HasDart, IsSimpleMap, list_of, follows, place_of}
use Rattle.map_theory.specs.Edges.{without_edge}

-- the lists with an edge between u and v more: v is put in at place i of u's list, and u at place j of v's
abbrev pub with_edge_at : Lists → ℕ → ℕ → ℕ → ℕ → Lists
with_edge_at lists u i v j =
    slice_set (slice_set lists u (insert (list_of lists u) i v)) v (insert (list_of lists v) j u)

-- what x comes before, put in at place i of a list, cyclically; itself in an empty list
abbrev pub entry_at : List ℕ → ℕ → ℕ → ℕ
entry_at us i x = slice_index_or us i (slice_index_or us 0 x)

-- It is a simple map with the edge and all that was there, and the old one without it; at both ends the new entry comes before what stood at its place.
pub record IsEdgeMore (old new : Lists) (u i v j : ℕ) : Type 0 where
  pub simple : IsSimpleMap new
  pub edge : HasDart new u v
  pub kept : (w z : ℕ) → HasDart old w z → HasDart new w z
  pub only : (w z : ℕ) → HasDart new w z → HasDart old w z ⊎ (((w ≡ u) × (z ≡ v)) ⊎ ((w ≡ v) × (z ≡ u)))
  pub without : without_edge new u v ≡ old
  pub next : follows new u v ≡ entry_at (list_of old u) i v
  pub next' : follows new v u ≡ entry_at (list_of old v) j u

-- An edge may be put between any two vertices that are not adjacent, at any places.
abbrev pub WithEdge : Type 0
WithEdge =
    (lists : Lists) (u i v j : ℕ) → IsSimpleMap lists → u < length lists → v < length lists → u ≢ v → ¬ HasDart lists u v → i ≤ length (list_of lists u) → j ≤ length (list_of lists v) → IsEdgeMore lists (with_edge_at lists u i v j) u i v j

-- the lists with an edge more, between u and v: v is put in directly after a in u's list, and u directly after c in v's
abbrev pub with_edge_after : Lists → ℕ → ℕ → ℕ → ℕ → Lists
with_edge_after lists u a v c =
    with_edge_at lists u (place_of a (list_of lists u) + 1) v (place_of c (list_of lists v) + 1)

-- What follows what, with the edge: v comes between a and what followed it, and u between c and what followed it; all else is as it was.
pub record IsPutAfter (old new : Lists) (u a v c : ℕ) : Type 0 where
  pub turn : follows new u a ≡ v
  pub turn' : follows new v c ≡ u
  pub next : follows new u v ≡ follows old u a
  pub next' : follows new v u ≡ follows old v c
  pub other : (w z : ℕ) → HasDart old w z → (w ≡ u → z ≢ a) → (w ≡ v → z ≢ c) → follows new w z ≡ follows old w z

-- An edge may be put between two corners of vertices that are not adjacent.
abbrev pub WithEdgeAfter : Type 0
WithEdgeAfter =
    (lists : Lists) (u a v c : ℕ) → IsSimpleMap lists → HasDart lists u a → HasDart lists v c → u ≢ v → ¬ HasDart lists u v → IsEdgeMore lists (with_edge_after lists u a v c) u (place_of a (list_of lists u) + 1) v (place_of c (list_of lists v) + 1) × IsPutAfter lists (with_edge_after lists u a v c) u a v c

-- the list of w with the edge: us is that without it, and u stands directly after c at v, and v directly after a at u
abbrev pub row_with_edge : (u a v c w : ℕ) → List ℕ → List ℕ
row_with_edge u a v c w us =
    if w == v then insert us (place_of c us + 1) u else if w == u then insert us (place_of a us + 1) v else us
