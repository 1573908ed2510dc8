-- Maps that have rectangular duals.
use Rattle.std.specs.Prelude.{ℕ, ◌<◌, ◌≡◌, [], ◌∷◌, length}
use Rattle.map_lists.specs.Lists.{Lists}
use Rattle.map_theory.specs.Maps.{component_count}
use Rattle.plane_laws.specs.WithEdge.{with_edge_after}
use Rattle.plane_peeling.specs.NearTriangulations.{IsNearTriangulation}
use Rattle.plane_peeling.specs.TwoGone.{HasNoSeparatingTriangle}

-- A connected simple map of genus zero with at least five vertices, whose outer face goes along the four vertices s, d, p and t: the left one, the top, the right one and the bottom. Each other face is a triangle, and each triangle of edges is a face.
pub record IsRectMap (lists : Lists) (s d p t : ℕ) : Type 0 where
  pub connected : component_count lists ≡ 1
  pub large : 4 < length lists
  pub near : IsNearTriangulation lists s t (s ∷ d ∷ p ∷ t ∷ [])
  pub no_separating : HasNoSeparatingTriangle lists

-- the map with an edge more, in the outer face between the top and the bottom
abbrev pub closed : Lists → ℕ → ℕ → ℕ → ℕ → Lists
closed lists s d p t = with_edge_after lists d s t p
