-- What separating pairs and cut vertices have to do with the faces of a plane map.
use Rattle.std.specs.Prelude.{ℕ}
use Rattle.map_lists.specs.Lists.{Lists}
use Rattle.map_theory.specs.Maps.{IsSimpleMap, IsPlane}
use Rattle.graph_search.specs.Cuts.{IsCutVertex}

-- a simple map of genus zero without cut vertices
pub record IsPlaneUncut (lists : Lists) : Type 0 where
  pub simple : IsSimpleMap lists
  pub plane : IsPlane lists
  pub uncut : (v : ℕ) → ¬ IsCutVertex lists v
