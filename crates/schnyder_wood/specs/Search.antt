-- A search of the faces from the outer one.
use Rattle.std.specs.Prelude.{ℕ, ◌≡◌, ◌↔◌, Bool, true, List, Some}
use Rattle.map_lists.specs.Lists.{Lists}
use Rattle.map_theory.specs.Maps.{Dart, HasDart}
use Rattle.half_edges.specs.Map.{Map, dart_at}
use Rattle.euler_faces.specs.ChainSearch.{IsMet}
use Rattle.wood_runs.specs.Parents.{Colour}
use Rattle.wood_laws.specs.Regions.{IsBoundaryEdge, Reaches}
use Rattle.schnyder_wood.specs.declared.schnyder_regions.closed_paths.ClosedPath.{ClosedPath}
use Rattle.schnyder_wood.specs.ClosedPaths.{IsEdgeOf}

-- the answer is whether the edge of a dart is one of the closed path
pub record IsCrossed (map : Map) (path : ClosedPath) (d : ℕ) (answer : Bool) : Type 0 where
  pub told : (x y : ℕ) → dart_at map d ≡ Some (x, y) → (answer ≡ true) ↔ IsEdgeOf path x y

-- the tables are those of region c of v
abbrev pub HasEdges : Lists → Dart → (Colour → ℕ → ℕ) → Colour → ℕ → ClosedPath → Type 0
HasEdges lists base parent c v path = (x y : ℕ) → HasDart lists x y → IsEdgeOf path x y ↔ IsBoundaryEdge lists base parent c v x y

-- all that a chain comes to is met, and no more
abbrev pub AreReached : Map → Dart → (Colour → ℕ → ℕ) → Colour → ℕ → List Bool → Type 0
AreReached map base parent c v met =
    (d : ℕ) (odd : Bool) (x y : ℕ) → dart_at map d ≡ Some (x, y) → IsMet met d odd ↔ Reaches map.lists base parent c v x y odd
