-- Vertices and faces that are clear below a number: of two vertices on two faces, none of the four greater than they, and no edge between these, neither is less.
use Rattle.std.specs.Prelude.{ℕ, ◌+◌, ◌<◌, ◌≤◌, ◌≡◌, ◌≢◌, ◌⊎◌, List, length, slice_index, slice_index_or, Contains, Some}
use Rattle.map_theory.specs.Maps.{HasDart, list_of}
use Rattle.half_edges.specs.Map.{Map, dart_at}
use Rattle.euler_faces.specs.FaceWalks.{walk_at}

-- the darts from v, in the order of its list
pub record IsRing (map : Map) (v : ℕ) (ring : List ℕ) : Type 0 where
  pub long : length ring ≡ length (list_of map.lists v)
  pub each : (i : ℕ) → i < length ring → dart_at map (slice_index ring i) ≡ Some (v, slice_index (list_of map.lists v) i)

-- the dart stands in walk f
abbrev pub IsNumber : List (List ℕ) → ℕ → ℕ → Type 0
IsNumber walks d f = (f < length walks) × Contains (walk_at walks f) d

-- ---- from a vertex
-- The dart d leaves z, which is neither u nor the head a of u's dart, and does not lead to u.
abbrev pub IsOffAt : Map → ℕ → ℕ → ℕ → ℕ → Type 0
IsOffAt map u a d z = (h : ℕ) × (dart_at map d ≡ Some (z, h)) × (z ≢ u) × (h ≢ u) × (z ≢ a)

-- The face of u's dart d has at most `most` darts, and passes z, which is no neighbour of u along it.
pub record IsOff (map : Map) (walks : List (List ℕ)) (most u d z : ℕ) : Type 0 where
  pub f : ℕ
  pub a : ℕ
  pub e : ℕ
  pub dart : dart_at map d ≡ Some (u, a)
  pub number : IsNumber walks d f
  pub short : length (walk_at walks f) ≤ most
  pub on : Contains (walk_at walks f) e
  pub off : IsOffAt map u a e z

-- The vertex u is clear below `least`: where two of its faces that have no more darts than u pass one vertex that is no neighbour of u along either, or one of them passes a neighbour of u so, neither this one nor u is less than that.
pub record IsClearVertex (map : Map) (walks : List (List ℕ)) (least u : ℕ) : Type 0 where
  pub alone : (d z : ℕ) → IsOff map walks (length (list_of map.lists u)) u d z → HasDart map.lists u z → (least ≤ u) × (least ≤ z)
  pub apart : (d e z : ℕ) → d ≢ e → IsOff map walks (length (list_of map.lists u)) u d z → IsOff map walks (length (list_of map.lists u)) u e z → (least ≤ u) × (least ≤ z)

-- ---- from a face
-- z is the face across the dart d
abbrev pub IsAcross : Map → List (List ℕ) → ℕ → ℕ → Type 0
IsAcross map walks d z = (x : ℕ) × (y : ℕ) × (e : ℕ) × (dart_at map d ≡ Some (x, y)) × (dart_at map e ≡ Some (y, x)) × IsNumber walks e z

-- z is the face across the dart d, which leads from x to y
abbrev pub IsSide : Map → List (List ℕ) → ℕ → ℕ → ℕ → ℕ → Type 0
IsSide map walks d z x y = (dart_at map d ≡ Some (x, y)) × IsAcross map walks d z

-- The face z is at the vertex v of the dart e, which has at most `most` darts; it is not f, nor across e or the dart d.
pub record IsOffCorner (map : Map) (walks : List (List ℕ)) (most f d e z v : ℕ) : Type 0 where
  pub y : ℕ
  pub c : ℕ
  pub h : ℕ
  pub dart : dart_at map e ≡ Some (v, y)
  pub small : length (list_of map.lists v) ≤ most
  pub corner : dart_at map c ≡ Some (v, h)
  pub number : IsNumber walks c z
  pub other : z ≢ f
  pub not_before : ¬ IsAcross map walks d z
  pub not_behind : ¬ IsAcross map walks e z

-- `IsOffCorner` at x; y is x too, so that a vertex stands as an edge with equal ends
abbrev pub IsCorner : Map → List (List ℕ) → ℕ → ℕ → ℕ → ℕ → ℕ → ℕ → ℕ → Type 0
IsCorner map walks most f d e z x y = IsOffCorner map walks most f d e z x × (y ≡ x)

-- where a walk goes on from place i
abbrev pub after_place : List ℕ → ℕ → ℕ
after_place walk i = slice_index_or walk (i + 1) (slice_index walk 0)

-- `IsCorner` at place i of walk f
abbrev pub IsOffPlace : Map → List (List ℕ) → ℕ → ℕ → ℕ → ℕ → ℕ → Type 0
IsOffPlace map walks f i z x y = IsCorner map walks (length (walk_at walks f)) f (slice_index (walk_at walks f) i) (after_place (walk_at walks f) i) z x y

-- The face z meets f at the edge (x, y), across a dart of f, or at the vertex x, which is then y.
abbrev pub MeetsAt : Map → List (List ℕ) → ℕ → ℕ → ℕ → ℕ → Type 0
MeetsAt map walks f z x y =
    ((i : ℕ) × (i < length (walk_at walks f)) × IsSide map walks (slice_index (walk_at walks f) i) z x y) ⊎
    ((i : ℕ) × (i < length (walk_at walks f)) × IsOffPlace map walks f i z x y)

-- The face f is clear below `least`: where a face meets it twice, no vertex of the one edge that is not on the other is less than that.
pub record IsClearFace (map : Map) (walks : List (List ℕ)) (least f : ℕ) : Type 0 where
  pub apart : (z x y v w u : ℕ) → MeetsAt map walks f z x y → MeetsAt map walks f z v w → (u ≡ x) ⊎ (u ≡ y) → u ≢ v → u ≢ w → least ≤ u
