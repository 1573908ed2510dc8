-- A region is one, and the counts of a run are those of the regions of its wood.
use Rattle.std.specs.Prelude.{ℕ, ◌-◌, ◌<◌, ◌≡◌, List, length}
use Rattle.map_lists.specs.Lists.{Lists}
use Rattle.map_theory.specs.Maps.{Dart, IsPlane, face_count}
use Rattle.pg_plane.specs.declared.grid_points.Point.{Point}
use Rattle.plane_drawings.specs.Drawing.{place}
use Rattle.convex_peeling.specs.Polyhedral.{IsThreeConnected}
use Rattle.convex_counts.specs.declared.face_woods.axis.Axis.{Axis}
use Rattle.convex_laws.specs.ConvexWoods.{IsOut, IsConvexWood}
use Rattle.convex_laws.specs.Regions.{IsFaceRegion}
use Rattle.convex_laws.specs.RegionDrawings.{IsCoordinate, IsRegionDrawing}
use Rattle.convex_laws.specs.Signs.{IsRisingBy}

-- The closed path of a vertex for an axis is one, and so is the number of faces inside it.
abbrev pub RegionsAreOne : Type 0
RegionsAreOne =
    (lists : Lists) (base : Dart) (root : Axis → ℕ) (out : Axis → ℕ → ℕ) (c : Axis) (v k l : ℕ) → IsPlane lists → IsThreeConnected lists → IsConvexWood lists base root out → IsFaceRegion lists base root out c v k → IsFaceRegion lists base root out c v l → k ≡ l

-- Where the darts of a wood lead along the axes whose coordinates alone rise in such a drawing, the coordinates are the numbers of faces in its regions.
abbrev pub RisingWoodsDraw : Type 0
RisingWoodsDraw =
    (lists : Lists) (base : Dart) (root : Axis → ℕ) (out : Axis → ℕ → ℕ) (root' : Axis → ℕ) (out' : Axis → ℕ → ℕ) (points : List Point) → IsPlane lists → IsThreeConnected lists → IsRegionDrawing lists base root out points → IsConvexWood lists base root' out'
    → ((c : Axis) (v u : ℕ) → IsOut lists root' out' c v u → IsRisingBy c (place points v) (place points u)) → (c : Axis) (v k : ℕ) → v < length lists → IsFaceRegion lists base root' out' c v k → IsCoordinate (face_count lists - 1) c (place points v) k
