-- Edges put into maps of genus zero, said of the map with the edge; the map before is the one without it.
use Rattle.std.specs.Prelude.{ℕ, ◌+◌, ◌≡◌, ◌≢◌}
use Rattle.map_lists.specs.Lists.{Lists}
use Rattle.map_theory.specs.Maps.{HasDart, IsSimpleMap, IsPlane, follows, face_count, component_count, SameComponent}
use Rattle.map_theory.specs.Edges.{without_edge}
use Rattle.map_theory.specs.Paths.{SameFace}

-- with the edge between u and v: genus zero, one face more, and its two darts in different faces
pub record IsSplitFace (old new : Lists) (u v : ℕ) : Type 0 where
  pub plane : IsPlane new
  pub faces : face_count new ≡ face_count old + 1
  pub components : component_count new ≡ component_count old
  pub apart : ¬ SameFace new (u, v) (v, u)

-- An edge is put between two corners of one face: at each end it stands before an entry, and the darts of these two entries lie in one face.
abbrev pub EdgeInFace : Type 0
EdgeInFace =
    (lists : Lists) (u v : ℕ) → IsSimpleMap lists → HasDart lists u v → follows lists u v ≢ v → follows lists v u ≢ u → IsPlane (without_edge lists u v) → SameFace (without_edge lists u v) (u, follows lists u v) (v, follows lists v u) → IsSplitFace (without_edge lists u v) lists u v

-- with the edge between u and v: genus zero, one face and one component less, and both its darts in one face
pub record IsJoinedFaces (old new : Lists) (u v : ℕ) : Type 0 where
  pub plane : IsPlane new
  pub faces : face_count old ≡ face_count new + 1
  pub components : component_count old ≡ component_count new + 1
  pub one : SameFace new (u, v) (v, u)

-- An edge is put between vertices of different components, each isolated or not.
abbrev pub EdgeBetween : Type 0
EdgeBetween =
    (lists : Lists) (u v : ℕ) → IsSimpleMap lists → HasDart lists u v → IsPlane (without_edge lists u v) → ¬ SameComponent (without_edge lists u v) u v → IsJoinedFaces (without_edge lists u v) lists u v
