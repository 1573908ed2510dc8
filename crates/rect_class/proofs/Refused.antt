-- Answers that wrong bodies would give: the clauses refuse them.
use Rattle.std.proofs.Common.{ℕ, inr}
use Rattle.map_lists.specs.Lists.{Lists}
use Rattle.map_lists.specs.declared.ids.VertexId.{VertexId}
use Rattle.plane_peeling.specs.Restricted.{IsFaceOfThree}
use Rattle.rect_class.specs.RectMaps.{IsOuter, HasLargeFace, IsRectMap}
use Rattle.rect_class.specs.Refusals.{BreaksRect}
use Rattle.refusals.specs.declared.conditions.Refusal.TheVariants.{NotTriangle, SeparatingTriangle, NoInner}
use Rattle.rect_class.proofs.Cases.{square, no_inner}

-- four vertices are taken for a map with one inside
four_vertices : ¬ IsRectMap square
four_vertices w = no_inner w.inner

-- that no vertex is inside is said before the faces are looked at, of which one is too large
no_inner_before_triangles : (lists : Lists) (v u : ℕ) → HasLargeFace lists v u → ¬ BreaksRect lists NoInner
no_inner_before_triangles lists v u face w = face.large (w.2 v u face.dart face.inner)

-- a face is looked for on one side of an edge alone, and a triangle with one on the other side separates
one_side_of_an_edge : (lists : Lists) (a b c : VertexId) → IsFaceOfThree lists b.0 a.0 c.0 → ¬ BreaksRect lists (SeparatingTriangle a b c)
one_side_of_an_edge lists a b c face w = w.3.rest.rest.here.no_face (inr face)

-- a dart of the outer face is taken for an inner one
outer_dart_is_inner : (lists : Lists) (v u : VertexId) → IsOuter lists v.0 u.0 → ¬ BreaksRect lists (NotTriangle v u)
outer_dart_is_inner lists v u outer w = w.2.rest.here.inner outer
