-- The least inner vertex of a path with a property.
use Rattle.std.specs.Prelude.{ℕ, ◌<◌, ◌≤◌, ◌≡◌, List, Option, Some, None, ⊤}
use Rattle.map_lists.specs.declared.ids.VertexId.{VertexId}
use Rattle.kuratowski.specs.Witnesses.{vertex_at}

-- some vertex at a place from 1 to before `end`
abbrev pub StandsWithin : List VertexId → ℕ → ℕ → Type 0
StandsWithin path end v = (i : ℕ) × (0 < i) × (i < end) × (vertex_at path i ≡ v)

-- the least of those with a property, or none where there is none
abbrev pub IsLeastInner : List VertexId → (ℕ → Type 0) → ℕ → Option ℕ → Type 0
IsLeastInner path P end None = (v : ℕ) → StandsWithin path end v → ¬ P v
IsLeastInner path P end (Some least) =
    StandsWithin path end least × P least × ((v : ℕ) → StandsWithin path end v → P v → least ≤ v)

-- v is below the least so far, if there is one
abbrev pub IsBelow : ℕ → Option ℕ → Type 0
IsBelow v None = ⊤
IsBelow v (Some least) = v < least
