-- Maps that edges are put into, and which of their faces are no triangles yet.
use Rattle.std.specs.Prelude.{ℕ, ◌+◌, ◌*◌, ◌≤◌, ◌≡◌, ◌⊎◌, length, Option, Some, insert}
use Rattle.map_lists.specs.Lists.{Lists}
use Rattle.map_theory.specs.Maps.{Dart, HasDart, IsPlane, list_of, follows, face_step, vertex_count, edge_count, component_count}
use Rattle.plane_laws.specs.Laws.{IsTriangle}
use Rattle.plane_laws.specs.MapEditsCompleted.{IsExtended}
use Rattle.plane_laws.specs.WithEdge.{with_edge_at, with_edge_after}
use Rattle.half_edges.specs.Map.{Map, IsHalfMap, dart_at}
use Rattle.half_edges.specs.Edges.{corner_place, IsCorner, with_entry}
use Rattle.half_edges.specs.declared.edge_edits.Corner.{Corner}

-- A map of genus zero with at least three vertices, and room for as many edges as such a map can have.
pub record IsRoomy (map : Map) : Type 0 where
  pub known : IsHalfMap map
  pub plane : IsPlane map.lists
  pub some : 3 ≤ vertex_count map.lists
  pub room : 3 * vertex_count map.lists ≤ edge_count map.lists + map.spare + 6

-- A map as in `IsRoomy` of one component: edges may be put in until all its faces are triangles.
pub record IsFillable (map : Map) : Type 0 where
  pub roomy : IsRoomy map
  pub one : component_count map.lists ≡ 1

-- The new map is the old one with edges put in, for each of which there was room; old darts keep their ids.
pub record IsGrown (old new : Map) : Type 0 where
  pub extended : IsExtended old.lists new.lists
  pub total : edge_count new.lists + new.spare ≡ edge_count old.lists + old.spare
  pub ids : (d v u : ℕ) → dart_at old d ≡ Some (v, u) → dart_at new d ≡ Some (v, u)

-- a corner of v: it stands behind an entry of v's list or at its front, and so at some place of it
abbrev pub IsCornerOf : Map → Corner → ℕ → Type 0
IsCornerOf map corner v =
    IsCorner map corner × ((entry : Option ℕ) × (corner_place map corner ≡ Some (v, entry)) × ((i : ℕ) × (i ≤ length (list_of map.lists v)) × ((x : ℕ) → with_entry (list_of map.lists v) entry x ≡ insert (list_of map.lists v) i x)))

-- an edge between u and v was put in, at some places
abbrev pub IsPutIn : Lists → Lists → ℕ → ℕ → Type 0
IsPutIn old new u v =
    (i : ℕ) × (j : ℕ) × (i ≤ length (list_of old u)) × (j ≤ length (list_of old v)) × (new ≡ with_edge_at old u i v j)

-- an ear that goes from a to b and on was cut: with p before b at a
abbrev pub IsCutEar : Lists → Lists → ℕ → ℕ → Type 0
IsCutEar old new a b =
    (p : ℕ) × HasDart old a p × (follows old a p ≡ b) × (new ≡ with_edge_after old a p (follows old b a) b)

-- (v, u) is (a, b), or one of the next two darts along its face
abbrev pub IsNear : Lists → ℕ → ℕ → ℕ → ℕ → Type 0
IsNear lists a b v u =
    let d : Dart = (v, u) in
    let e : Dart = (a, b) in
    (d ≡ e) ⊎ ((d ≡ face_step lists e) ⊎ (d ≡ face_step lists (face_step lists e)))

-- a dart of the first map whose id is at least k
abbrev pub Waits : Map → ℕ → ℕ → ℕ → Type 0
Waits first k v u = (d : ℕ) × (k ≤ d) × (dart_at first d ≡ Some (v, u))

-- each dart has a triangle, or it waits
abbrev pub IsFilled : Map → ℕ → Lists → Type 0
IsFilled first k lists = (v u : ℕ) → HasDart lists v u → IsTriangle lists (v, u) ⊎ Waits first k v u

-- each dart has a triangle, or it waits, or it is near (a, b)
abbrev pub IsCovered : Map → ℕ → Lists → ℕ → ℕ → Type 0
IsCovered first k lists a b =
    (v u : ℕ) → HasDart lists v u → IsTriangle lists (v, u) ⊎ (Waits first k v u ⊎ IsNear lists a b v u)
