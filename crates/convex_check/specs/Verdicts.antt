-- The verdict on a convex drawing.
use Rattle.std.specs.Prelude.{ℕ, List}
use Rattle.map_lists.specs.Lists.{Lists}
use Rattle.map_theory.specs.Maps.{Dart, follows}
use Rattle.half_edges.specs.Map.{Map}
use Rattle.pg_plane.specs.declared.grid_points.Point.{Point}
use Rattle.vertex_rounds.specs.Least.{IsLeastTriple}
use Rattle.vertex_rounds.specs.Rounds.{dart_of}
use Rattle.drawings.specs.Convex.{IsBent, HasOuterCorners, IsConvex}
use Rattle.convex_check.specs.declared.verdict.ConvexVerdict.{ConvexVerdict}
use Rattle.convex_check.specs.declared.verdict.ConvexVerdict.TheVariants.{Bent, OuterBent, Yes}

-- no face but the base's bends inwards
abbrev pub NoneBent : Lists → List Point → Dart → Type 0
NoneBent lists points base = (a b c : ℕ) → ¬ IsBent lists points base a b c

-- the face of the dart from a to b bends at b, and is not the base's
abbrev pub IsBentFrom : Map → List Point → ℕ → ℕ → ℕ → Type 0
IsBentFrom map points base a b = IsBent map.lists points (dart_of map base) a b (follows map.lists b a)

-- The verdict is the least corner at which a face bends inwards, or that the outer face is no triangle, or that neither is found.
abbrev pub IsConvexVerdict : Lists → List Point → Dart → ConvexVerdict → Type 0
IsConvexVerdict lists points base (Bent a b c) = IsLeastTriple (IsBent lists points base) a.0 b.0 c.0
IsConvexVerdict lists points base OuterBent = NoneBent lists points base × ¬ HasOuterCorners lists points base
IsConvexVerdict lists points base Yes = IsConvex lists points base
