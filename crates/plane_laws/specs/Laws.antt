-- Laws of simple maps, and of those of genus zero.
use Rattle.std.specs.Prelude.{ℕ, ◌+◌, ◌*◌, ◌<◌, ◌≤◌, ◌≡◌, ◌⊎◌, ◌↔◌, true, List, [], ◌∷◌, ◌++◌, ◌≢◌, Contains, length}
use Rattle.map_lists.specs.Lists.{Lists}
use Rattle.map_theory.specs.Maps.{Dart, HasDart, IsSimpleMap, IsPlane, vertex_count, edge_count, component_count, SameComponent, list_of, follows, face_step}
use Rattle.map_theory.specs.Edges.{without_edge}
use Rattle.map_theory.specs.Paths.{JoinsAvoiding, arc, SameFace}

-- a path joins u and v
abbrev pub AreJoined : Lists → ℕ → ℕ → Type 0
AreJoined lists u v = (path : List ℕ) × JoinsAvoiding lists [] u v path

-- Two vertices of a simple map are in one component exactly where a path joins them.
abbrev pub ComponentsArePaths : Type 0
ComponentsArePaths =
    (lists : Lists) (u v : ℕ) → IsSimpleMap lists → u < length lists → v < length lists → SameComponent lists u v ↔ AreJoined lists u v

-- A map of genus zero without one of its edges has genus zero.
abbrev pub EdgeRemoved : Type 0
EdgeRemoved =
    (lists : Lists) (u v : ℕ) → IsSimpleMap lists → IsPlane lists → HasDart lists u v → IsSimpleMap (without_edge lists u v) × IsPlane (without_edge lists u v)

-- In a map of genus zero an edge's two darts lie in one face exactly where taking the edge away makes a component more.
abbrev pub BridgeTest : Type 0
BridgeTest =
    (lists : Lists) (u v : ℕ) → IsSimpleMap lists → IsPlane lists → HasDart lists u v → (SameFace lists (u, v) (v, u) → component_count (without_edge lists u v) ≡ component_count lists + 1) × (¬ SameFace lists (u, v) (v, u) → component_count (without_edge lists u v) ≡ component_count lists)

-- The faces of `rest` are those of `lists`, with the faces of the darts d and e, which are two, made one.
pub record IsMergedFaces (lists rest : Lists) (d e : Dart) : Type 0 where
  pub apart : ¬ SameFace lists d e
  pub kept : (b c : Dart) → HasDart rest b.0 b.1 → HasDart rest c.0 c.1 → SameFace lists b c → SameFace rest b c
  pub made_one : (b c : Dart) → HasDart rest b.0 b.1 → HasDart rest c.0 c.1 → SameFace lists b d → SameFace lists e c → SameFace rest b c
  pub no_more : (b c : Dart) → HasDart rest b.0 b.1 → HasDart rest c.0 c.1 → SameFace rest b c → SameFace lists b c ⊎ ((SameFace lists b d × SameFace lists e c) ⊎ (SameFace lists b e × SameFace lists d c))

-- Where a connected map of genus zero stays connected without an edge, the edge's two faces become one, and all others stay.
abbrev pub FacesMerged : Type 0
FacesMerged =
    (lists : Lists) (u v : ℕ) → IsSimpleMap lists → IsPlane lists → HasDart lists u v → component_count lists ≡ 1 → component_count (without_edge lists u v) ≡ 1 → IsMergedFaces lists (without_edge lists u v) (u, v) (v, u)

-- A simple map of genus zero with at least three vertices has at most 3n - 6 edges.
abbrev pub EdgeBound : Type 0
EdgeBound =
    (lists : Lists) → IsSimpleMap lists → IsPlane lists → 3 ≤ vertex_count lists → edge_count lists + 6 ≤ 3 * vertex_count lists

-- In a connected map with at least three vertices each face has at least three darts: fewer steps do not lead back.
abbrev pub FacesHaveThree : Type 0
FacesHaveThree =
    (lists : Lists) (u v : ℕ) → IsSimpleMap lists → component_count lists ≡ 1 → 3 ≤ vertex_count lists → HasDart lists u v → (face_step lists (u, v) ≢ (u, v)) × (face_step lists (face_step lists (u, v)) ≢ (u, v))

-- three steps lead back to the dart
abbrev pub IsTriangle : Lists → Dart → Type 0
IsTriangle lists d = face_step lists (face_step lists (face_step lists d)) ≡ d

-- A map of genus zero with at least three vertices has just 3n - 6 edges exactly where it is connected and each of its faces is a triangle.
abbrev pub EdgeBoundMet : Type 0
EdgeBoundMet =
    (lists : Lists) → IsSimpleMap lists → IsPlane lists → 3 ≤ vertex_count lists → (edge_count lists + 6 ≡ 3 * vertex_count lists) ↔ ((component_count lists ≡ 1) × ((u v : ℕ) → HasDart lists u v → IsTriangle lists (u, v)))

-- Where two corners of a vertex lie in one face, the vertex separates the two parts of its list.
abbrev pub CornerSplit : Type 0
CornerSplit =
    (lists : Lists) (v a b : ℕ) → IsSimpleMap lists → IsPlane lists → HasDart lists v a → HasDart lists v b → a ≢ b → SameFace lists (v, a) (v, b) → (s t : ℕ) → Contains (arc (list_of lists v) a b) s → Contains (arc (list_of lists v) b a) t → (path : List ℕ) → ¬ JoinsAvoiding lists (v ∷ []) s t path

-- one side of two corners, a's at u and b's at v, and the edge between u and v: from a on round u up to v, and from u on round v up to b
abbrev pub side : Lists → ℕ → ℕ → ℕ → ℕ → List ℕ
side lists u v a b = arc (list_of lists u) a v ++ arc (list_of lists v) (follows lists v u) b

-- Where two adjacent vertices have corners in one face, they separate the two sides.
abbrev pub DigonSplit : Type 0
DigonSplit =
    (lists : Lists) (u v a b : ℕ) → IsSimpleMap lists → IsPlane lists → HasDart lists u v → HasDart lists u a → HasDart lists v b → SameFace lists (u, a) (v, b) → (s t : ℕ) → Contains (side lists u v a b) s → Contains (side lists v u b a) t → (path : List ℕ) → ¬ JoinsAvoiding lists (u ∷ v ∷ []) s t path
