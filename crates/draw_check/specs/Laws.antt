-- The laws of the verdict: what Yes says, and that it passes to maps with fewer edges.
use Rattle.std.specs.Prelude.{List, ℤ, ◌↔◌}
use Rattle.map_lists.specs.Lists.{Lists}
use Rattle.map_theory.specs.Maps.{IsSimpleMap}
use Rattle.pg_plane.specs.declared.grid_points.Point.{Point}
use Rattle.plane_drawings.specs.Drawing.{IsPlaneDrawing}
use Rattle.drawings.specs.Valid.{IsValid}
use Rattle.draw_check.specs.declared.verdict.Verdict.TheVariants.{Yes}
use Rattle.draw_check.specs.Verdicts.{IsVerdict, IsPlaneVerdict}

-- The verdict is Yes exactly where the drawing is valid.
abbrev pub YesIsValid : Type 0
YesIsValid =
    (lists : Lists) (points : List Point) (width height : ℤ) → IsSimpleMap lists → (IsVerdict lists points width height Yes) ↔ (IsValid lists points width height)

-- The verdict on the edges alone is Yes exactly where the drawing is plane.
abbrev pub YesIsPlane : Type 0
YesIsPlane =
    (lists : Lists) (points : List Point) → IsSimpleMap lists → (IsPlaneVerdict lists points Yes) ↔ (IsPlaneDrawing lists points)
