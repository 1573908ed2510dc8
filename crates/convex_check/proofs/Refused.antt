-- Verdicts that wrong bodies of the check would give: the clause refuses them.
use Rattle.std.specs.Prelude.{List}
use Rattle.map_lists.specs.Lists.{Lists}
use Rattle.map_lists.specs.declared.ids.VertexId.{VertexId}
use Rattle.map_theory.specs.Maps.{Dart}
use Rattle.map_theory.specs.Paths.{SameFace}
use Rattle.pg_plane.specs.declared.grid_points.Point.{Point}
use Rattle.drawings.specs.Convex.{HasOuterCorners}
use Rattle.convex_check.specs.Verdicts.{IsConvexVerdict}
use Rattle.convex_check.specs.declared.verdict.ConvexVerdict.TheVariants.{Bent, OuterBent, Yes}

-- a bend of the base's face is named
base_face_judged : (lists : Lists) (points : List Point) (base : Dart) (a b c : VertexId) → SameFace lists base (a.0, b.0) → ¬ IsConvexVerdict lists points base (Bent a b c)
base_face_judged lists points base a b c same w = w.rest.rest.here.other same

-- the outer face is refused where it is convex
convex_outer_face_refused : (lists : Lists) (points : List Point) (base : Dart) → HasOuterCorners lists points base → ¬ IsConvexVerdict lists points base OuterBent
convex_outer_face_refused lists points base corners w = w.1 corners

-- and let through where it is not
bent_outer_face_let_through : (lists : Lists) (points : List Point) (base : Dart) → ¬ HasOuterCorners lists points base → ¬ IsConvexVerdict lists points base Yes
bent_outer_face_let_through lists points base none w = none w.outer
