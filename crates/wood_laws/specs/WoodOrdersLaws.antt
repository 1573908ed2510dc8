-- Each wood is the wood of a canonical order; and so what is true of the regions of those is true of the regions of all woods.
use Rattle.std.specs.Prelude.{ℕ, ◌≡◌, List, Bool}
use Rattle.map_lists.specs.Lists.{Lists}
use Rattle.map_theory.specs.Maps.{Dart, HasDart}
use Rattle.plane_laws.specs.Triangulations.{IsTriangulation}
use Rattle.canon_order.specs.Orders.{IsCanonicalOrder}
use Rattle.wood_runs.specs.Parents.{Colour}
use Rattle.contour_runs.specs.Runs.{Step}
use Rattle.order_drawings.specs.OrderRuns.{IsOrderRun}
use Rattle.wood_laws.specs.Woods.{IsInner, IsWood, AreParentsOf}
use Rattle.wood_laws.specs.Regions.{Reaches, IsInRegion}
use Rattle.wood_laws.specs.WoodRegionsLaws.{IsWoodOfOrder, AreCoordinates}
use Rattle.wood_laws.specs.Arranged.{IsArranged}

-- Vertices arranged as a wood has them are a canonical order.
abbrev pub ArrangedIsOrder : Type 0
ArrangedIsOrder =
    (lists : Lists) (base : Dart) (parent : Colour → ℕ → ℕ) (at : List ℕ) → IsTriangulation lists → HasDart lists base.0 base.1 → IsWood lists base parent → IsArranged lists base parent at → IsCanonicalOrder lists base at

-- The parents of a wood are those of each run of the canonical order in which the vertices are arranged as the wood has them.
abbrev pub ParentsOfArranged : Type 0
ParentsOfArranged =
    (lists : Lists) (base : Dart) (parent : Colour → ℕ → ℕ) (at : List ℕ) (steps : ℕ → Step) → IsTriangulation lists → HasDart lists base.0 base.1 → IsWood lists base parent → IsArranged lists base parent at → (order : IsCanonicalOrder lists base at) → IsOrderRun lists base at order.cycle steps → AreParentsOf at steps parent

-- For each wood the vertices can be arranged as it has them.
abbrev pub SomeArranged : Type 0
SomeArranged =
    (lists : Lists) (base : Dart) (parent : Colour → ℕ → ℕ) → IsTriangulation lists → HasDart lists base.0 base.1 → IsWood lists base parent → (at : List ℕ) × IsArranged lists base parent at

-- Each wood is the wood of a canonical order.
abbrev pub OrderOfWood : Type 0
OrderOfWood =
    (lists : Lists) (base : Dart) (parent : Colour → ℕ → ℕ) → IsTriangulation lists → HasDart lists base.0 base.1 → IsWood lists base parent → (at : List ℕ) × IsWoodOfOrder lists base at parent

-- All chains that lead to a face step over an odd number of edges of the closed path that bounds a region, or none does; and some chain leads to each face.
abbrev pub InsideOfWood : Type 0
InsideOfWood =
    (lists : Lists) (base : Dart) (parent : Colour → ℕ → ℕ) (c : Colour) (v x y : ℕ) → IsTriangulation lists → HasDart lists base.0 base.1 → IsWood lists base parent → IsInner lists base v → HasDart lists x y
    → (odd : Bool) × Reaches lists base parent c v x y odd × ((odd' : Bool) → Reaches lists base parent c v x y odd' → odd' ≡ odd)

-- Where an inner vertex lies in a region of another, its region is part of that.
abbrev pub NestedInWood : Type 0
NestedInWood =
    (lists : Lists) (base : Dart) (parent : Colour → ℕ → ℕ) (c : Colour) (u v w : ℕ) → IsTriangulation lists → HasDart lists base.0 base.1 → IsWood lists base parent → IsInner lists base u → IsInner lists base v → IsInRegion lists base parent c u v → IsInRegion lists base parent c v w → IsInRegion lists base parent c u w

-- Each inner vertex has a coordinate for each colour: how many more vertices its region has than the path of the colour before. The three together are one less than the number of vertices.
abbrev pub CoordinatesInWood : Type 0
CoordinatesInWood =
    (lists : Lists) (base : Dart) (parent : Colour → ℕ → ℕ) (v : ℕ) → IsTriangulation lists → HasDart lists base.0 base.1 → IsWood lists base parent → IsInner lists base v → (x : ℕ) × (y : ℕ) × (z : ℕ) × AreCoordinates lists base parent v x y z
