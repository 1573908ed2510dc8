-- The law of closed walks.
use Rattle.std.specs.Prelude.{ℕ, ◌≡◌, Bool, List}
use Rattle.map_lists.specs.Lists.{Lists}
use Rattle.map_theory.specs.Maps.{Dart, HasDart, IsSimpleMap, IsPlane, component_count}
use Rattle.convex_laws.specs.Walks.{IsWalk, is_odd_on}
use Rattle.euler_faces.specs.Chains.{Reaches}

-- Whether the chains to a dart step over an odd number of edges; each of them does so, or none.
pub record HasSide (lists : Lists) (counts : ℕ → ℕ → Bool) (base : Dart) (x y : ℕ) (odd : Bool) : Type 0 where
  pub some : Reaches lists counts base x y odd
  pub only : (odd' : Bool) → Reaches lists counts base x y odd' → odd' ≡ odd

-- In a connected map of genus zero each dart lies on one side of a closed walk, counted from any other dart.
abbrev pub SidesAreKnown : Type 0
SidesAreKnown =
    (lists : Lists) (base : Dart) (v : ℕ) (walk : List Dart) (x y : ℕ) → IsSimpleMap lists → IsPlane lists → component_count lists ≡ 1 → HasDart lists base.0 base.1 → IsWalk lists v v walk → HasDart lists x y
    → (odd : Bool) × HasSide lists (is_odd_on walk) base x y odd
