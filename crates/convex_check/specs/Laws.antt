-- What the verdict `Yes` means.
use Rattle.std.specs.Prelude.{◌≡◌, ◌↔◌, List}
use Rattle.map_lists.specs.Lists.{Lists}
use Rattle.map_theory.specs.Maps.{Dart}
use Rattle.pg_plane.specs.declared.grid_points.Point.{Point}
use Rattle.drawings.specs.Convex.{IsConvex}
use Rattle.convex_check.specs.Verdicts.{IsConvexVerdict}
use Rattle.convex_check.specs.declared.verdict.ConvexVerdict.{ConvexVerdict}
use Rattle.convex_check.specs.declared.verdict.ConvexVerdict.TheVariants.{Yes}

-- The verdict is `Yes` exactly where the drawing is convex.
abbrev pub YesIsConvex : Type 0
YesIsConvex =
    (lists : Lists) (points : List Point) (base : Dart) (verdict : ConvexVerdict) → IsConvexVerdict lists points base verdict → (verdict ≡ Yes) ↔ IsConvex lists points base
