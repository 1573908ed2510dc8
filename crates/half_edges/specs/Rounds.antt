-- The darts of each vertex linked into a round, where they stand one after another.
use Rattle.std.specs.Prelude.{ℕ, ◌+◌, ◌-◌, ◌<◌, ◌≤◌, ◌≡◌, ◌==◌, nat_lt, if◌then◌else◌, true, List, ◌∷◌, length, slice_index, slice_index_or}
use Rattle.half_edges.specs.Arena.{record_at, vertex_at, twin_of, tail_of}
use Rattle.half_edges.specs.declared.dart_records.DartRecord.{DartRecord}
use Rattle.half_edges.specs.declared.dart_records.VertexRecord.{VertexRecord}

-- the record of dart d stands between the one before, where there is one, and the one after it
pub record IsInLine (r : DartRecord) (d : ℕ) : Type 0 where
  pub next : r.next ≡ d + 1
  pub prev : 0 < d → r.prev ≡ d - 1
  pub live : r.live ≡ true

-- the record of dart d in a round, whose darts are those from start on and before end; its twin and its tail are as before
abbrev pub round_record : List DartRecord → ℕ → ℕ → ℕ → DartRecord
round_record darts start end d =
    record { twin = twin_of darts d; next = if nat_lt (d + 1) end then d + 1 else start; prev = if d == start then end - 1 else d - 1; tail = tail_of darts d; live = true }

-- the darts of the first n vertices are linked, and all others are as they were
pub record AreRounds (ends : List ℕ) (old new : List DartRecord) (n : ℕ) : Type 0 where
  pub count : length new ≡ length old
  pub here : (v d : ℕ) → v < n → slice_index_or (0 ∷ ends) v 0 ≤ d → d < slice_index ends v → record_at new d ≡ round_record old (slice_index_or (0 ∷ ends) v 0) (slice_index ends v) d
  pub elsewhere : (d : ℕ) → slice_index_or (0 ∷ ends) n 0 ≤ d → record_at new d ≡ record_at old d

-- the records of the first n vertices
pub record AreRoundVertices (ends : List ℕ) (vertices : List VertexRecord) (n : ℕ) : Type 0 where
  pub count : length vertices ≡ n
  pub first : (v : ℕ) → v < n → (vertex_at vertices v).first ≡ slice_index_or (0 ∷ ends) v 0
  pub degree : (v : ℕ) → v < n → (vertex_at vertices v).degree ≡ slice_index ends v - slice_index_or (0 ∷ ends) v 0
