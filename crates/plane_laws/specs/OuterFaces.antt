-- Outer faces that meet each vertex once.
use Rattle.std.specs.Prelude.{ℕ, ◌≡◌, ◌≢◌}
use Rattle.map_lists.specs.Lists.{Lists}
use Rattle.map_theory.specs.Maps.{HasDart, IsSimpleMap, IsPlane, follows}
use Rattle.map_theory.specs.Paths.{SameFace}

-- A face goes from each vertex v that has an edge on to `next v`, and so meets each just once; and it does not go to and fro along one edge.
pub record IsOuterFace (lists : Lists) (next : ℕ → ℕ) : Type 0 where
  pub darts : (v z : ℕ) → HasDart lists v z → HasDart lists v (next v)
  pub turns : (v : ℕ) → HasDart lists v (next v) → follows lists (next v) v ≡ next (next v)
  pub one : (u v : ℕ) → HasDart lists u (next u) → HasDart lists v (next v) → SameFace lists (u, next u) (v, next v)
  pub single : (v : ℕ) → HasDart lists v (next v) → next (next v) ≢ v

-- The face comes to v from the vertex that follows `next v` in v's list, so v has no neighbour between the two; and it is neither from p nor to what comes after p.
pub record IsOuterEar (lists : Lists) (next : ℕ → ℕ) (p v : ℕ) : Type 0 where
  pub dart : HasDart lists v (next v)
  pub comes : next (follows lists v (next v)) ≡ v
  pub not_from : v ≢ p
  pub not_after : follows lists v (next v) ≢ p

-- In a map of genus zero with such an outer face there is an ear beside each of its darts.
abbrev pub OuterEar : Type 0
OuterEar =
    (lists : Lists) (next : ℕ → ℕ) (p : ℕ) → IsSimpleMap lists → IsPlane lists → IsOuterFace lists next → HasDart lists p (next p) → (v : ℕ) × IsOuterEar lists next p v

-- The dart (u, w) is not of the outer face, and each other dart of its face has the outer face on its other side, and not by the dart that leaves p.
pub record IsOuterLeaf (lists : Lists) (next : ℕ → ℕ) (p u w : ℕ) : Type 0 where
  pub dart : HasDart lists u w
  pub inner : w ≢ next u
  pub others : (x y : ℕ) → HasDart lists x y → SameFace lists (u, w) (x, y) → ¬ ((x ≡ u) × (y ≡ w)) → (next y ≡ x) × (y ≢ p)

-- In a map of genus zero with such an outer face there is a leaf away from each of its darts.
abbrev pub OuterLeaf : Type 0
OuterLeaf =
    (lists : Lists) (next : ℕ → ℕ) (p : ℕ) → IsSimpleMap lists → IsPlane lists → IsOuterFace lists next → HasDart lists p (next p) → (u : ℕ) × (w : ℕ) × IsOuterLeaf lists next p u w
