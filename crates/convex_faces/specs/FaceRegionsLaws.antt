-- What the calls tell of one another: the regions of a wood are the coordinates of its drawing.
use Rattle.std.specs.Prelude.{ℕ, ◌-◌, ◌<◌, length}
use Rattle.map_theory.specs.Maps.{IsPlane, face_count}
use Rattle.half_edges.specs.Map.{Map}
use Rattle.plane_drawings.specs.Drawing.{place}
use Rattle.convex_peeling.specs.Polyhedral.{IsThreeConnected}
use Rattle.convex_counts.specs.declared.face_woods.axis.Axis.{Axis}
use Rattle.convex_laws.specs.Regions.{IsFaceRegion}
use Rattle.convex_laws.specs.RegionDrawings.{IsCoordinate}
use Rattle.convex_faces.specs.Directions.{Directions, root_in, IsWoodIn, IsDrawnWood}

-- The number of faces in the region of a vertex for an axis is its coordinate for that axis; the three have the sum f - 1, for f faces.
abbrev pub RegionsAreCoordinates : Type 0
RegionsAreCoordinates =
    (map : Map) (s d : ℕ) (wood : Directions) (w : IsWoodIn map (s, d) wood) (x : IsDrawnWood map s d wood) (c : Axis) (v k : ℕ) → IsPlane map.lists → IsThreeConnected map.lists → v < length map.lists → IsFaceRegion map.lists (s, d) (root_in wood) w.head c v k
    → IsCoordinate (face_count map.lists - 1) c (place x.figure.points v) k
