-- A map with an edge more, and the writes to an arena by which darts come and go.
use Rattle.std.specs.Prelude.{ℕ, ◌+◌, ◌-◌, ◌<◌, ◌≡◌, ◌≢◌, ◌==◌, true, if◌then◌else◌, List, [], ◌∷◌, length, slice_set, Option, Some, None, option_map}
use Rattle.std.specs.List.{insert}
use Rattle.map_lists.specs.Lists.{Lists}
use Rattle.map_theory.specs.Maps.{HasDart, list_of, place_of}
use Rattle.half_edges.specs.Map.{Map, dart_at, IsLive}
use Rattle.half_edges.specs.Arena.{vertex_at, next_of, tail_of, head_of, live_of}
use Rattle.half_edges.specs.Links.{IsSpliced, IsUnspliced, IsVertexSet}
use Rattle.half_edges.specs.declared.dart_records.DartRecord.{DartRecord}
use Rattle.half_edges.specs.declared.dart_records.VertexRecord.{VertexRecord}
use Rattle.half_edges.specs.declared.edge_edits.Corner.{Corner}
use Rattle.half_edges.specs.declared.edge_edits.Corner.TheVariants.{After, Only}

-- the place of a corner: its vertex, and the entry of the list behind which it stands, if the list has any
abbrev pub corner_place : Map → Corner → Option (ℕ × Option ℕ)
corner_place map (After d) = option_map (λ dart. (dart.0, Some dart.1)) (dart_at map d.0)
corner_place map (Only v) = Some (v.0, None)

-- a corner names a dart of the map, or a vertex that has none
abbrev pub IsCorner : Map → Corner → Type 0
IsCorner map (After d) = IsLive map d.0
IsCorner map (Only v) = (v.0 < length map.lists) × (list_of map.lists v.0 ≡ [])

-- a list with x directly behind one of its entries, or at the front where none is named
abbrev pub with_entry : List ℕ → Option ℕ → ℕ → List ℕ
with_entry us (Some a) x = insert us (place_of a us + 1) x
with_entry us None x = x ∷ us

-- the lists with an edge more between u and v, behind these entries
abbrev pub with_edge : Lists → ℕ → Option ℕ → ℕ → Option ℕ → Lists
with_edge lists u a v b =
    slice_set (slice_set lists u (with_entry (list_of lists u) a v)) v (with_entry (list_of lists v) b u)

-- the vertex of a corner, by the records
abbrev pub corner_tail : List DartRecord → Corner → ℕ
corner_tail darts (After e) = tail_of darts e.0
corner_tail darts (Only v) = v.0

-- the entry behind which it stands
abbrev pub corner_entry : List DartRecord → Corner → Option ℕ
corner_entry darts (After e) = Some (head_of darts e.0)
corner_entry darts (Only v) = None

-- a corner is one of the map: its dart is live, or its vertex is isolated
abbrev pub IsCornerIn : Lists → List DartRecord → Corner → Type 0
IsCornerIn lists darts (After e) = live_of darts e.0 ≡ true
IsCornerIn lists darts (Only v) = (v.0 < length lists) × (list_of lists v.0 ≡ [])

-- two corners for a new edge: at two vertices that are not adjacent
pub record AreCornersIn (lists : Lists) (darts : List DartRecord) (c e : Corner) : Type 0 where
  pub first : IsCornerIn lists darts c
  pub second : IsCornerIn lists darts e
  pub two_vertices : corner_tail darts c ≢ corner_tail darts e
  pub not_adjacent : ¬ HasDart lists (corner_tail darts c) (corner_tail darts e)

-- the first dart of a vertex, where a dart leaves behind which another comes
abbrev pub moved_first : ℕ → ℕ → ℕ → ℕ
moved_first first d next = if first == d then next else first

-- a dart was taken out from round its vertex
pub record IsTakenOut (old new : List DartRecord) (vertices shrunk : List VertexRecord) (d : ℕ) : Type 0 where
  pub unspliced : IsUnspliced old new d
  pub vertex : IsVertexSet vertices shrunk (tail_of old d) (moved_first (vertex_at vertices (tail_of old d)).first d (next_of old d)) ((vertex_at vertices (tail_of old d)).degree - 1)

-- the writes of a corner stay within the records
abbrev pub IsPutWithin : List DartRecord → List VertexRecord → ℕ → Corner → Type 0
IsPutWithin old vertices d (After e) =
    (e.0 < length old) × (e.0 ≢ d) × (next_of old e.0 < length old) × (next_of old e.0 ≢ d) × (tail_of old e.0 < length vertices) × ((vertex_at vertices (tail_of old e.0)).degree < 4096)
IsPutWithin old vertices d (Only v) = v.0 < length vertices

-- a dart was put into a corner
abbrev pub IsPut : List DartRecord → List DartRecord → List VertexRecord → List VertexRecord → ℕ → Corner → Type 0
IsPut old new vertices grown d (After e) =
    IsSpliced old new d e.0 (next_of old e.0) (tail_of old e.0)
    × IsVertexSet vertices grown (tail_of old e.0) (vertex_at vertices (tail_of old e.0)).first ((vertex_at vertices (tail_of old e.0)).degree + 1)
IsPut old new vertices grown d (Only v) = IsSpliced old new d d d v.0 × IsVertexSet vertices grown v.0 d 1
