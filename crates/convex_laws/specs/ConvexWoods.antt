-- Convex woods (Felsner 2001). The outer face is that of the base, which goes from root two to root one; root three is the vertex before it on that face.
use Rattle.std.specs.Prelude.{ℕ, ◌<◌, ◌≡◌, ◌≢◌, ◌⊎◌, length}
use Rattle.map_lists.specs.Lists.{Lists}
use Rattle.map_theory.specs.Maps.{Dart, HasDart, follows}
use Rattle.map_theory.specs.Paths.{SameFace}
use Rattle.convex_counts.specs.declared.face_woods.axis.Axis.{Axis}
use Rattle.convex_counts.specs.declared.face_woods.axis.Axis.TheVariants.{One, Two, Three}
use Rattle.convex_counts.specs.Axes.{next, previous, IsEntry}

-- root one is the head of the base, root two its tail, and root three the vertex before the tail on the base's face
pub record AreRoots (lists : Lists) (base : Dart) (root : Axis → ℕ) : Type 0 where
  pub one : root One ≡ base.1
  pub two : root Two ≡ base.0
  pub before : HasDart lists (root Three) base.0
  pub step : follows lists base.0 (root Three) ≡ base.1

-- The dart from v to u is the direction of an axis out of v. Each vertex has one for each axis, but the root of the axis has none.
pub record IsOut (lists : Lists) (root : Axis → ℕ) (out : Axis → ℕ → ℕ) (c : Axis) (v u : ℕ) : Type 0 where
  pub vertex : v < length lists
  pub other : v ≢ root c
  pub is : out c v ≡ u

-- The outer face stands between the entry u of the list of an axis's root and the one clockwise after it. It passes root three, root two and root one in turn.
abbrev pub IsBeforeOuter : Lists → Dart → (Axis → ℕ) → Axis → ℕ → Type 0
IsBeforeOuter lists base root One u = u ≡ base.0
IsBeforeOuter lists base root Two u = u ≡ root Three
IsBeforeOuter lists base root Three u = follows lists (root Three) u ≡ base.0

-- The entry u of v's list, and the one clockwise after it, stand in their sectors: between them lies one sector. At the root of an axis the outer face stands in the place of the edge that leads out along the axis.
pub record IsOrdered (lists : Lists) (base : Dart) (root : Axis → ℕ) (out : Axis → ℕ → ℕ) (v u : ℕ) : Type 0 where
  pub ahead : Axis
  pub behind : Axis
  pub ahead_next : Axis
  pub behind_next : Axis
  pub entry : IsEntry (IsOut lists root out) v u ahead behind
  pub after : IsEntry (IsOut lists root out) v (follows lists v u) ahead_next behind_next
  pub at_root : (c : Axis) → v ≡ root c → IsBeforeOuter lists base root c u → (behind ≡ previous c) × (ahead_next ≡ next c)
  pub elsewhere : ((c : Axis) → v ≡ root c → ¬ IsBeforeOuter lists base root c u) → behind ≡ ahead_next

-- Each edge is directed one way or both ways, and each direction has one axis, the two of one edge different ones. Counterclockwise round each vertex stand out one, in three, out two, in one, out three, in two; an edge that leads in may be the one that leads out next to it. No inner face has an axis along which all its darts lead, or the opposites of all its darts.
pub record IsConvexWood (lists : Lists) (base : Dart) (root : Axis → ℕ) (out : Axis → ℕ → ℕ) : Type 0 where
  pub roots : AreRoots lists base root
  pub edges : (c : Axis) (v u : ℕ) → IsOut lists root out c v u → HasDart lists v u
  pub one_axis : (c d : Axis) (v u : ℕ) → IsOut lists root out c v u → IsOut lists root out d v u → c ≡ d
  pub other_axis : (c d : Axis) (v u : ℕ) → IsOut lists root out c v u → IsOut lists root out d u v → c ≢ d
  pub directed : (v u : ℕ) → HasDart lists v u → ((c : Axis) × IsOut lists root out c v u) ⊎ ((c : Axis) × IsOut lists root out c u v)
  pub order : (v u : ℕ) → HasDart lists v u → IsOrdered lists base root out v u
  pub along : (c : Axis) (x y : ℕ) → HasDart lists x y → ¬ SameFace lists base (x, y) → ¬ ((x' y' : ℕ) → HasDart lists x' y' → SameFace lists (x, y) (x', y') → IsOut lists root out c x' y')
  pub against : (c : Axis) (x y : ℕ) → HasDart lists x y → ¬ SameFace lists base (x, y) → ¬ ((x' y' : ℕ) → HasDart lists x' y' → SameFace lists (x, y) (x', y') → IsOut lists root out c y' x')
