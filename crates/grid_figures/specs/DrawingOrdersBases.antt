-- The base for a drawing: a dart from vertex 0.
use Rattle.std.specs.Prelude.{ℕ, ◌<◌, ◌≡◌, Some}
use Rattle.map_theory.specs.Maps.{HasDart}
use Rattle.half_edges.specs.Map.{Map, dart_at}

-- the dart of an id leads from vertex 0 to its least neighbour
pub record LeadsToLeast (map : Map) (id : ℕ) : Type 0 where
  pub to : ℕ
  pub dart : dart_at map id ≡ Some (0, to)
  pub least : (u : ℕ) → u < to → ¬ HasDart map.lists 0 u
