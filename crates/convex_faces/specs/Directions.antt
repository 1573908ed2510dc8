-- What contracts see of a convex wood.
use Rattle.std.specs.Prelude.{ℕ, ◌<◌, ◌≡◌, ◌≢◌, List, length, slice_index, Some}
use Rattle.map_theory.specs.Maps.{Dart}
use Rattle.half_edges.specs.Map.{Map, dart_at}
use Rattle.pg_plane.specs.declared.figures.GridFigure.{GridFigure}
use Rattle.convex_counts.specs.declared.face_woods.axis.Axis.{Axis}
use Rattle.convex_counts.specs.declared.face_woods.axis.Axis.TheVariants.{One, Two, Three}
use Rattle.convex_laws.specs.ConvexWoods.{IsOut, IsConvexWood}
use Rattle.convex_laws.specs.RegionDrawings.{IsRegionDrawing}
use Rattle.convex_draw.specs.Grids.{IsConvexGrid}

-- the roots, and for each axis a table of the darts out of the vertices
pub record Directions : Type 0 where
  pub root_one : ℕ
  pub root_two : ℕ
  pub root_three : ℕ
  pub ones : List ℕ
  pub twos : List ℕ
  pub threes : List ℕ

abbrev pub count_in : Directions → ℕ
count_in wood = length wood.ones

abbrev pub root_in : Directions → Axis → ℕ
root_in wood One = wood.root_one
root_in wood Two = wood.root_two
root_in wood Three = wood.root_three

abbrev pub table_in : Directions → Axis → List ℕ
table_in wood One = wood.ones
table_in wood Two = wood.twos
table_in wood Three = wood.threes

abbrev pub out_in : Directions → Axis → ℕ → ℕ
out_in wood c v = slice_index (table_in wood c) v

-- The darts are a convex wood of the map over the base. Along each axis they lead farther out, and so to its root.
pub record IsWoodIn (map : Map) (base : Dart) (wood : Directions) : Type 0 where
  pub count : count_in wood ≡ length map.lists
  pub head : Axis → ℕ → ℕ
  pub darts : (c : Axis) (v : ℕ) → v < length map.lists → v ≢ root_in wood c → dart_at map (out_in wood c v) ≡ Some (v, head c v)
  pub convex : IsConvexWood map.lists base (root_in wood) head
  pub height : Axis → ℕ → ℕ
  pub higher : (c : Axis) (v u : ℕ) → IsOut map.lists (root_in wood) head c v u → height c v < height c u
  pub most : (c : Axis) (v : ℕ) → v < length map.lists → height c v < 1048576

-- Over the base from s to d some convex drawing of the map in a grid is by the regions of this wood.
pub record IsDrawnWood (map : Map) (s d : ℕ) (wood : Directions) : Type 0 where
  pub figure : GridFigure
  pub grid : IsConvexGrid map.lists s d figure
  pub regions : (w : IsWoodIn map (s, d) wood) → IsRegionDrawing map.lists (s, d) (root_in wood) w.head figure.points
