-- The verdict by faces implies that by pairs, and both verdicts for a map with fewer edges.
use Rattle.std.specs.Prelude.{List, ℤ}
use Rattle.map_lists.specs.Lists.{Lists}
use Rattle.map_theory.specs.Maps.{Dart, HasDart, IsSimpleMap}
use Rattle.plane_laws.specs.Triangulations.{IsTriangulation}
use Rattle.plane_laws.specs.MapEditsCompleted.{IsExtended}
use Rattle.pg_plane.specs.declared.grid_points.Point.{Point}
use Rattle.draw_check.specs.Verdicts.{IsVerdict}
use Rattle.draw_check.specs.FaceVerdicts.{IsFaceVerdict}
use Rattle.draw_check.specs.Outer.{IsOuterVerdict}
use Rattle.draw_check.specs.declared.verdict.Verdict.TheVariants.{Yes}
use Rattle.draw_check.specs.declared.verdict.FaceVerdict.TheVariants.{Yes as FacesYes}
use Rattle.draw_check.specs.declared.verdict.OuterVerdict.TheVariants.{Yes as OuterYes}

-- Where the faces of a triangulation are drawn well, the drawing has no fault.
abbrev pub FacesYesIsYes : Type 0
FacesYesIsYes =
    (lists : Lists) (points : List Point) (width height : ℤ) (base : Dart) → IsTriangulation lists → HasDart lists base.0 base.1 → IsFaceVerdict lists points width height base FacesYes → IsVerdict lists points width height Yes

-- Where the faces of a triangulation are drawn well, the drawing has no fault as one of a map that it completes, and the base's face is the outer one.
abbrev pub FacesYesForFewer : Type 0
FacesYesForFewer =
    (lists more : Lists) (points : List Point) (width height : ℤ) (base : Dart) → IsSimpleMap lists → IsTriangulation more → IsExtended lists more → HasDart lists base.0 base.1 → IsFaceVerdict more points width height base FacesYes → IsVerdict lists points width height Yes × IsOuterVerdict lists points base OuterYes
