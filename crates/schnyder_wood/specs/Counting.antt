-- Vertices of a region, marked and counted.
use Rattle.std.specs.Prelude.{ℕ, ◌<◌, ◌≡◌, ◌⊎◌, ◌↔◌, Bool, true, List, length, Some}
use Rattle.map_lists.specs.Lists.{Lists}
use Rattle.map_theory.specs.Maps.{Dart}
use Rattle.half_edges.specs.Map.{Map, dart_at}
use Rattle.wood_runs.specs.Parents.{Colour}
use Rattle.euler_faces.specs.Numbers.{mark_at}
use Rattle.wood_laws.specs.Regions.{IsOnBoundary}
use Rattle.schnyder_wood.specs.declared.schnyder_regions.closed_paths.ClosedPath.{ClosedPath}
use Rattle.schnyder_wood.specs.ClosedPaths.{IsVertexOf}
use Rattle.euler_faces.specs.ChainSearch.{IsMet}

-- w has a dart, of the ids below k, whose face is met with an odd number
abbrev pub HasOdd : Map → List Bool → ℕ → ℕ → Type 0
HasOdd map met k w = (d : ℕ) × (d < k) × (y : ℕ) × (dart_at map d ≡ Some (w, y)) × IsMet met d true

-- the vertices that are marked are those marked before, and those of which this holds
abbrev pub MarksMore : (ℕ → Type 0) → List Bool → List Bool → Type 0
MarksMore P old new = (w : ℕ) → w < length old → (mark_at new w ≡ true) ↔ ((mark_at old w ≡ true) ⊎ P w)

-- the tables are those of region c of v
abbrev pub HasVertices : Lists → Dart → (Colour → ℕ → ℕ) → Colour → ℕ → ClosedPath → Type 0
HasVertices lists base parent c v path = (u : ℕ) → u < length lists → IsVertexOf path u ↔ IsOnBoundary lists base parent c v u
