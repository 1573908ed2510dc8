-- Maps of the class break no condition, and are near triangulations without separating triangle.
use Rattle.std.specs.Prelude.{ℕ, ◌<◌, ◌≡◌, [], ◌∷◌, length}
use Rattle.map_lists.specs.Lists.{Lists}
use Rattle.map_theory.specs.Maps.{component_count}
use Rattle.plane_peeling.specs.NearTriangulations.{IsNearTriangulation}
use Rattle.plane_peeling.specs.TwoGone.{HasNoSeparatingTriangle}
use Rattle.refusals.specs.declared.conditions.Refusal.{Refusal}
use Rattle.drawings.specs.Duals.{top_vertex, right_vertex, bottom_vertex}
use Rattle.rect_class.specs.RectMaps.{IsRectMap}
use Rattle.rect_class.specs.Refusals.{BreaksRect}

-- Lists of such a map break no condition first.
abbrev pub RectMapsBreakNothing : Type 0
RectMapsBreakNothing = (lists : Lists) (refusal : Refusal) → 0 < length lists → IsRectMap lists → ¬ BreaksRect lists refusal

-- A connected near triangulation with this quadrangle as its outer cycle, in which no triangle separates, with more than four vertices.
pub record IsOpenQuadrangle (lists : Lists) (s d p t : ℕ) : Type 0 where
  pub connected : component_count lists ≡ 1
  pub more : 4 < length lists
  pub near : IsNearTriangulation lists s t (s ∷ d ∷ p ∷ t ∷ [])
  pub triangles : HasNoSeparatingTriangle lists

-- Each map of the class is one, with the four of its frame.
abbrev pub BiconnectedAreRectMaps : Type 0
BiconnectedAreRectMaps =
    (lists : Lists) → IsRectMap lists → IsOpenQuadrangle lists 0 (top_vertex lists) (right_vertex lists) (bottom_vertex lists)
