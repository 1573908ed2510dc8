use Rattle.std.proofs.Common.{◌-◌, subst}
use Rattle.map_theory.specs.Maps.{face_count}
use Rattle.plane_drawings.specs.Drawing.{place}
use Rattle.convex_laws.specs.RegionDrawings.{IsCoordinate}
use Rattle.convex_laws.proofs.OneRegion.{regions_are_one}
use Rattle.convex_faces.specs.Directions.{root_in}
use Rattle.convex_faces.proofs.face_regions.regions_are_coordinates.Goals as goal

pub returns : goal.returns
returns c = λ map s d wood w x c v k plane three l f.
    let r = x.regions w in
    let z = r.region c v l in
    subst (IsCoordinate (face_count map.lists - 1) c (place x.figure.points v)) (regions_are_one map.lists (s, d) (root_in wood) w.head c v z.0 k plane three r.wood z.1 f) z.2
