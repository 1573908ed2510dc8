-- Triangulations, and how a map is completed.
use Rattle.std.specs.Prelude.{ℕ, ◌≤◌, ◌≡◌, ◌==◌, length, filter}
use Rattle.std.specs.List.{list_any}
use Rattle.map_lists.specs.Lists.{Lists}
use Rattle.map_theory.specs.Maps.{IsSimpleMap, IsPlane, list_of, vertex_count}
use Rattle.plane_laws.specs.Triangulations.{IsTriangulation}

-- each old list is the new one without what is new in it: entries that are put in never move others
pub record IsExtended (old new : Lists) : Type 0 where
  pub vertices : length new ≡ length old
  pub lists : (v : ℕ) → filter (λ u. list_any (λ w. w == u) (list_of old v)) (list_of new v) ≡ list_of old v

-- Each simple map of genus zero with at least three vertices can be completed by edges that are put in.
abbrev pub Completion : Type 0
Completion =
    (lists : Lists) → IsSimpleMap lists → IsPlane lists → 3 ≤ vertex_count lists → (new : Lists) × IsTriangulation new × IsExtended lists new
