-- The laws of regions.
use Rattle.std.specs.Prelude.{ℕ, suc, ◌+◌, ◌≡◌, List, length, pos, Bool}
use Rattle.map_lists.specs.Lists.{Lists}
use Rattle.map_theory.specs.Maps.{Dart, HasDart}
use Rattle.plane_laws.specs.Triangulations.{IsTriangulation}
use Rattle.pg_plane.specs.declared.grid_points.Point.{Point}
use Rattle.plane_drawings.specs.Drawing.{place}
use Rattle.canon_order.specs.Orders.{IsCanonicalOrder}
use Rattle.contour_runs.specs.Runs.{Step}
use Rattle.order_drawings.specs.OrderRuns.{IsOrderRun}
use Rattle.wood_runs.specs.Parents.{Colour, one, two, three, previous}
use Rattle.order_drawings.specs.SchnyderDrawings.{AreWoodPoints}
use Rattle.wood_laws.specs.Woods.{root, IsInner, LeadsBy, AreParentsOf}
use Rattle.wood_laws.specs.Regions.{Reaches, IsInRegion, IsRegionCount}

-- The parents are those of a canonical order of the map.
pub record IsWoodOfOrder (lists : Lists) (base : Dart) (at : List ℕ) (parent : Colour → ℕ → ℕ) : Type 0 where
  pub order : IsCanonicalOrder lists base at
  pub steps : ℕ → Step
  pub run : IsOrderRun lists base at order.cycle steps
  pub parents : AreParentsOf at steps parent

-- All chains that lead to a face step over an odd number of edges of the closed path, or none does; and some chain leads to each face.
abbrev pub InsideIsKnown : Type 0
InsideIsKnown =
    (lists : Lists) (base : Dart) (at : List ℕ) (parent : Colour → ℕ → ℕ) (c : Colour) (v x y : ℕ) → IsTriangulation lists → IsWoodOfOrder lists base at parent → IsInner lists base v → HasDart lists x y
    → (odd : Bool) × Reaches lists base parent c v x y odd × ((odd' : Bool) → Reaches lists base parent c v x y odd' → odd' ≡ odd)

-- Where an inner vertex lies in a region of another, its region is part of that.
abbrev pub RegionsNested : Type 0
RegionsNested =
    (lists : Lists) (base : Dart) (at : List ℕ) (parent : Colour → ℕ → ℕ) (c : Colour) (u v w : ℕ) → IsTriangulation lists → IsWoodOfOrder lists base at parent → IsInner lists base u → IsInner lists base v → IsInRegion lists base parent c u v → IsInRegion lists base parent c v w → IsInRegion lists base parent c u w

-- The coordinate k of v for this colour is how many more vertices its region has than the path of the colour before.
abbrev pub IsCoordinate : Lists → Dart → (Colour → ℕ → ℕ) → Colour → ℕ → ℕ → Type 0
IsCoordinate lists base parent c v k =
    (r d : ℕ) → IsRegionCount lists base parent c v r → LeadsBy lists base (parent (previous c)) d v (root lists base (previous c)) → r ≡ k + suc d

-- x, y and z are the coordinates of v for the three colours; their sum is one less than the number of vertices
pub record AreCoordinates (lists : Lists) (base : Dart) (parent : Colour → ℕ → ℕ) (v x y z : ℕ) : Type 0 where
  pub first : IsCoordinate lists base parent one v x
  pub second : IsCoordinate lists base parent two v y
  pub third : IsCoordinate lists base parent three v z
  pub all : x + y + z + 1 ≡ length lists

-- An inner vertex stands in the drawing of the order at its coordinates.
pub record StandsAtCoordinates (lists : Lists) (base : Dart) (parent : Colour → ℕ → ℕ) (points : List Point) (v : ℕ) : Type 0 where
  pub x : ℕ
  pub y : ℕ
  pub z : ℕ
  pub coordinates : AreCoordinates lists base parent v x y z
  pub place_is : place points v ≡ record { x = pos x; y = pos y }

-- In a drawing of a triangulation by Schnyder's coordinates each inner vertex stands at its coordinates.
abbrev pub DrawnAtCoordinates : Type 0
DrawnAtCoordinates =
    (lists : Lists) (base : Dart) (at : List ℕ) (parent : Colour → ℕ → ℕ) (points : List Point) (v : ℕ) → IsTriangulation lists → (order : IsCanonicalOrder lists base at) → (drawn : AreWoodPoints lists base at order.cycle points) → AreParentsOf at drawn.steps parent → IsInner lists base v → StandsAtCoordinates lists base parent points v
