-- Orders of what stands at a fork, by what returns by each.
use Rattle.std.specs.Prelude.{ℕ, ◌≡◌, ◌≢◌, ◌↔◌, Bool, true, false, List, [], slice_index, slice_index_or, AllPairs, Contains}
use Rattle.map_theory.specs.Maps.{Dart}
use Rattle.left_right_maps.specs.Orders.{MayAllPrecede}
use Rattle.left_right_lists.specs.Sides.{side_in}

-- what returns by each vertex's edge, in a list for each
abbrev pub returns_in : List (List Dart) → ℕ → List Dart
returns_in returns u = slice_index_or returns u []

-- each edge that returns by the vertex's edge to e may stand before each that returns by its edge to f
abbrev pub Before : List ℕ → List Bool → List (List Dart) → ℕ → ℕ → Type 0
Before depths sides returns e f =
    MayAllPrecede (slice_index depths) (side_in sides) (returns_in returns e) (returns_in returns f)

-- u is one of the vertices that no order has yet
abbrev pub IsFree : List Bool → ℕ → Type 0
IsFree free u = slice_index_or free u false ≡ true

-- u is a free vertex that may stand before every other free vertex
pub record IsFirst (depths : List ℕ) (sides : List Bool) (returns : List (List Dart)) (free : List Bool) (u : ℕ) : Type 0 where
  pub left : IsFree free u
  pub before : (f : ℕ) → IsFree free f → u ≢ f → Before depths sides returns u f

-- us are the free vertices, each once, in an order in which each may stand before all later ones
pub record IsOrderOf (depths : List ℕ) (sides : List Bool) (returns : List (List Dart)) (free : List Bool) (us : List ℕ) : Type 0 where
  pub all : (u : ℕ) → Contains us u ↔ IsFree free u
  pub pairs : AllPairs (λ e f. (e ≢ f) × Before depths sides returns e f) us
