-- What the tables of a half-edge map say.
use Rattle.std.specs.Prelude.{ℕ, ◌+◌, ◌-◌, ◌<◌, ◌≡◌, ◌==◌, nat_lt, if◌then◌else◌, true, List, map, length, slice_index, slice_index_or, Option, Some}
use Rattle.map_lists.specs.Lists.{Lists}
use Rattle.map_theory.specs.Maps.{Dart, list_of}
use Rattle.half_edges.specs.Map.{Map, AreMapFacts}
use Rattle.half_edges.specs.Arena.{record_at, vertex_at}
use Rattle.half_edges.specs.declared.dart_records.DartRecord.{DartRecord}
use Rattle.half_edges.specs.declared.dart_records.VertexRecord.{VertexRecord}
use Rattle.simple_maps.specs.Tables.{AreTables}

-- the map of these tables: a dart's id is its number
abbrev pub ids_of : List Dart → List (Option Dart)
ids_of ends = map (λ d. Some d) ends

abbrev pub map_of : (lists : Lists) (ends : List Dart) → AreMapFacts lists 0 (ids_of ends) → Map
map_of lists ends known = record { lists = lists; spare = 0; ids = ids_of ends; known = known }

-- the record of a dart, by the tables: next and prev are the numbers after and before its own, round its vertex
abbrev pub table_record : List ℕ → List Dart → List ℕ → ℕ → DartRecord
table_record starts ends twins d =
    let v = (slice_index_or ends d (0, 0)).0 in
    let start = slice_index starts v in
    let end = slice_index starts (v + 1) in
    record { twin = slice_index twins d; next = if nat_lt (d + 1) end then d + 1 else start; prev = if d == start then end - 1 else d - 1; tail = v; live = true }

-- the records of the first n darts
pub record AreTableRecords (starts : List ℕ) (ends : List Dart) (twins : List ℕ) (records : List DartRecord) (n : ℕ) : Type 0 where
  pub count : length records ≡ n
  pub at : (d : ℕ) → d < n → record_at records d ≡ table_record starts ends twins d

-- the records of the first n vertices
pub record AreTableVertices (lists : Lists) (starts : List ℕ) (vertices : List VertexRecord) (n : ℕ) : Type 0 where
  pub count : length vertices ≡ n
  pub first : (v : ℕ) → v < n → (vertex_at vertices v).first ≡ slice_index starts v
  pub degree : (v : ℕ) → v < n → (vertex_at vertices v).degree ≡ length (list_of lists v)

-- the records are those of some tables of the map
pub record AreLinked (lists : Lists) (records : List DartRecord) (vertices : List VertexRecord) : Type 0 where
  pub starts : List ℕ
  pub ends : List Dart
  pub twins : List ℕ
  pub tables : AreTables lists starts ends twins
  pub records_are : AreTableRecords starts ends twins records (length ends)
  pub vertices_are : AreTableVertices lists starts vertices (length lists)
