-- Schnyder's regions (1990) of a triangulation with a wood. Region c of an inner vertex is the one opposite the root of colour c.
use Rattle.std.specs.Prelude.{ℕ, zero, suc, ◌<◌, ◌≡◌, ◌⊎◌, ◌↔◌, Bool, true, false, not, length}
use Rattle.classes.specs.Classes.{count_below}
use Rattle.map_lists.specs.Lists.{Lists}
use Rattle.map_theory.specs.Maps.{Dart, HasDart, follows}
use Rattle.wood_runs.specs.Parents.{Colour, next, previous}
use Rattle.wood_laws.specs.Woods.{root, IsInner, LeadsBy}

-- w is on the path of a colour from v: steps to the parent, each from an inner vertex, lead there
abbrev pub IsOnPath : Lists → Dart → (Colour → ℕ → ℕ) → Colour → ℕ → ℕ → Type 0
IsOnPath lists base parent c v w = (d : ℕ) × LeadsBy lists base (parent c) d v w

-- the edge from x to y is one of that path
abbrev pub IsPathEdge : Lists → Dart → (Colour → ℕ → ℕ) → Colour → ℕ → ℕ → ℕ → Type 0
IsPathEdge lists base parent c v x y = IsOnPath lists base parent c v x × IsInner lists base x × (parent c x ≡ y)

-- The edge between x and y is one of the closed path that bounds region c of v: along the path of the next colour to its root, over the outer edge to the root of the colour before, and back along the path of that.
pub data IsBoundaryEdge (lists : Lists) (base : Dart) (parent : Colour → ℕ → ℕ) (c : Colour) (v x y : ℕ) : Type 0 where
  on_next : IsPathEdge lists base parent (next c) v x y ⊎ IsPathEdge lists base parent (next c) v y x → IsBoundaryEdge lists base parent c v x y
  on_previous : IsPathEdge lists base parent (previous c) v x y ⊎ IsPathEdge lists base parent (previous c) v y x → IsBoundaryEdge lists base parent c v x y
  on_outer : ((x ≡ root lists base (next c)) × (y ≡ root lists base (previous c))) ⊎ ((x ≡ root lists base (previous c)) × (y ≡ root lists base (next c))) → IsBoundaryEdge lists base parent c v x y

-- A chain of faces goes on from the dart (x, y): along the face that lies on its left, or over the edge to the face on the other side. It counts whether it has stepped over an odd number of edges of the closed path.
pub data GoesOn (lists : Lists) (base : Dart) (parent : Colour → ℕ → ℕ) (c : Colour) (v x y : ℕ) (odd : Bool) (x' y' : ℕ) (odd' : Bool) : Type 0 where
  along : x' ≡ y → y' ≡ follows lists y x → odd' ≡ odd → GoesOn lists base parent c v x y odd x' y' odd'
  over : x' ≡ y → y' ≡ x → IsBoundaryEdge lists base parent c v x y → odd' ≡ not odd → GoesOn lists base parent c v x y odd x' y' odd'
  past : x' ≡ y → y' ≡ x → ¬ IsBoundaryEdge lists base parent c v x y → odd' ≡ odd → GoesOn lists base parent c v x y odd x' y' odd'

-- a chain of k moves leads from the outer face, which lies left of the base, to the face left of (x, y)
abbrev pub ReachesBy : Lists → Dart → (Colour → ℕ → ℕ) → Colour → ℕ → ℕ → ℕ → ℕ → Bool → Type 0
ReachesBy lists base parent c v zero x y odd = (x ≡ base.0) × (y ≡ base.1) × (odd ≡ false)
ReachesBy lists base parent c v (suc k) x y odd =
    (x' : ℕ) × (y' : ℕ) × (odd' : Bool) × ReachesBy lists base parent c v k x' y' odd' × GoesOn lists base parent c v x' y' odd' x y odd

-- `ReachesBy`, for a chain of any length
abbrev pub Reaches : Lists → Dart → (Colour → ℕ → ℕ) → Colour → ℕ → ℕ → ℕ → Bool → Type 0
Reaches lists base parent c v x y odd = (k : ℕ) × ReachesBy lists base parent c v k x y odd

-- w is on the closed path
abbrev pub IsOnBoundary : Lists → Dart → (Colour → ℕ → ℕ) → Colour → ℕ → ℕ → Type 0
IsOnBoundary lists base parent c v w = IsOnPath lists base parent (next c) v w ⊎ IsOnPath lists base parent (previous c) v w

-- w is on a face inside it: a chain with an odd number leads there
abbrev pub IsOnInside : Lists → Dart → (Colour → ℕ → ℕ) → Colour → ℕ → ℕ → Type 0
IsOnInside lists base parent c v w = (y : ℕ) × HasDart lists w y × Reaches lists base parent c v w y true

-- w is in region c of v
abbrev pub IsInRegion : Lists → Dart → (Colour → ℕ → ℕ) → Colour → ℕ → ℕ → Type 0
IsInRegion lists base parent c v w = IsOnBoundary lists base parent c v w ⊎ IsOnInside lists base parent c v w

-- region c of v has k vertices
pub record IsRegionCount (lists : Lists) (base : Dart) (parent : Colour → ℕ → ℕ) (c : Colour) (v k : ℕ) : Type 0 where
  pub inside : ℕ → Bool
  pub exact : (w : ℕ) → w < length lists → (inside w ≡ true) ↔ IsInRegion lists base parent c v w
  pub count : count_below inside (length lists) ≡ k
