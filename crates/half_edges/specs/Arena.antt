-- The arena: records of darts and of vertices, and what holds of them.
use Rattle.std.specs.Prelude.{ℕ, zero, suc, ◌+◌, ◌*◌, ◌<◌, ◌≤◌, ◌≡◌, ◌≢◌, Bool, false, if◌then◌else◌, List, [], ◌∷◌, ◌++◌, map, length, slice_index_or, AllPairs, Option, Some, None}
use Rattle.map_lists.specs.Lists.{Lists}
use Rattle.map_theory.specs.Maps.{Dart, IsSimpleMap, HasDart, list_of, follows, edge_count}
use Rattle.half_edges.specs.Map.{Map, AreMapFacts}
use Rattle.half_edges.specs.declared.dart_records.DartRecord.{DartRecord}
use Rattle.half_edges.specs.declared.dart_records.VertexRecord.{VertexRecord}

-- what stands past the end: a record that is not live
abbrev pub no_record : DartRecord
no_record = record { twin = 0; next = 0; prev = 0; tail = 0; live = false }

abbrev pub no_vertex : VertexRecord
no_vertex = record { first = 0; degree = 0 }

abbrev pub record_at : List DartRecord → ℕ → DartRecord
record_at darts d = slice_index_or darts d no_record

abbrev pub vertex_at : List VertexRecord → ℕ → VertexRecord
vertex_at vertices v = slice_index_or vertices v no_vertex

abbrev pub twin_of : List DartRecord → ℕ → ℕ
twin_of darts d = (record_at darts d).twin

abbrev pub next_of : List DartRecord → ℕ → ℕ
next_of darts d = (record_at darts d).next

abbrev pub prev_of : List DartRecord → ℕ → ℕ
prev_of darts d = (record_at darts d).prev

abbrev pub tail_of : List DartRecord → ℕ → ℕ
tail_of darts d = (record_at darts d).tail

abbrev pub live_of : List DartRecord → ℕ → Bool
live_of darts d = (record_at darts d).live

-- the head of a dart is the tail of its twin
abbrev pub head_of : List DartRecord → ℕ → ℕ
head_of darts d = tail_of darts (twin_of darts d)

-- the dart of a record, if it is live
abbrev pub dart_of_record : List DartRecord → DartRecord → Option Dart
dart_of_record darts r = if r.live then Some (r.tail, tail_of darts r.twin) else None

abbrev pub dart_in : List DartRecord → ℕ → Option Dart
dart_in darts d = dart_of_record darts (record_at darts d)

-- the id that is reached from d in k steps of next
abbrev pub steps : List DartRecord → ℕ → ℕ → ℕ
steps darts d zero = d
steps darts d (suc k) = next_of darts (steps darts d k)

-- the heads that are met from d in n steps
abbrev pub walk : List DartRecord → ℕ → ℕ → List ℕ
walk darts d zero = []
walk darts d (suc n) = walk darts d n ++ head_of darts (steps darts d n) ∷ []

-- n steps from d stay within the records
abbrev pub IsWalkable : List DartRecord → ℕ → ℕ → Type 0
IsWalkable darts d n =
    (k : ℕ) → k < n → (steps darts d k < length darts) × (twin_of darts (steps darts d k) < length darts)

-- what contracts see: the lists are those that walks from the first darts meet
abbrev pub arena_lists : List DartRecord → List VertexRecord → Lists
arena_lists darts vertices = map (λ v. walk darts v.first v.degree) vertices

-- and the ids are the numbers of the records
abbrev pub arena_ids : List DartRecord → List (Option Dart)
arena_ids darts = map (dart_of_record darts) darts

abbrev pub arena_map : (darts : List DartRecord) (vertices : List VertexRecord) (spare : ℕ) → AreMapFacts (arena_lists darts vertices) spare (arena_ids darts) → Map
arena_map darts vertices spare known =
    record { lists = arena_lists darts vertices; spare = spare; ids = arena_ids darts; known = known }

-- The links of the darts that the ids have: next and prev go round each vertex as its list does.
pub record IsLinked (dart : ℕ → Option Dart) (lists : Lists) (darts : List DartRecord) (vertices : List VertexRecord) : Type 0 where
  pub distinct : (v : ℕ) → v < length lists → AllPairs ◌≢◌ (list_of lists v)
  pub is_dart : (d v u : ℕ) → dart d ≡ Some (v, u) → HasDart lists v u
  pub has_id : (v u : ℕ) → HasDart lists v u → (d : ℕ) × (dart d ≡ Some (v, u))
  pub one_id : (d e v u : ℕ) → dart d ≡ Some (v, u) → dart e ≡ Some (v, u) → d ≡ e
  pub next_at : (d v u : ℕ) → dart d ≡ Some (v, u) → dart (next_of darts d) ≡ Some (v, follows lists v u)
  -- prev undoes next
  pub prev_at : (d v u : ℕ) → dart d ≡ Some (v, u) → prev_of darts (next_of darts d) ≡ d
  pub vertex_count : length vertices ≡ length lists
  pub degree_at : (v : ℕ) → v < length lists → (vertex_at vertices v).degree ≡ length (list_of lists v)
  -- the first dart of a vertex that has any
  pub first_at : (v : ℕ) → v < length lists → 0 < length (list_of lists v) → dart (vertex_at vertices v).first ≡ Some (v, slice_index_or (list_of lists v) 0 0)

-- twin pairs the records, live ones with live ones
pub record IsPaired (darts : List DartRecord) (d : ℕ) : Type 0 where
  pub within : twin_of darts d < length darts
  pub back : twin_of darts (twin_of darts d) ≡ d
  pub other : twin_of darts d ≢ d
  pub both : live_of darts (twin_of darts d) ≡ live_of darts d

-- from d on, k free edges are threaded by next; prev says how many are behind
abbrev pub AreFree : List DartRecord → ℕ → ℕ → Type 0
AreFree darts d zero = Unit {0}
AreFree darts d (suc k) =
    (d < length darts) × (live_of darts d ≡ false) × (prev_of darts d ≡ k) × (prev_of darts (twin_of darts d) ≡ k) × AreFree darts (next_of darts d) k

-- What holds of every arena.
pub record IsArena (lists : Lists) (darts : List DartRecord) (vertices : List VertexRecord) (edges free spare : ℕ) : Type 0 where
  pub linked : IsLinked (dart_in darts) lists darts vertices
  pub simple : IsSimpleMap lists
  pub few_vertices : length lists < 4096
  pub paired : (d : ℕ) → d < length darts → IsPaired darts d
  pub edges_are : edges ≡ edge_count lists
  pub count : length darts ≡ 2 * (edges + spare)
  pub room : edges + spare ≤ 16777216
  pub threaded : AreFree darts free spare

-- What holds of the records, whatever their counts.
pub record IsWired (lists : Lists) (darts : List DartRecord) (vertices : List VertexRecord) (free spare : ℕ) : Type 0 where
  pub linked : IsLinked (dart_in darts) lists darts vertices
  pub simple : IsSimpleMap lists
  pub few_vertices : length lists < 4096
  pub paired : (d : ℕ) → d < length darts → IsPaired darts d
  pub threaded : AreFree darts free spare
