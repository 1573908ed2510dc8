-- The search by which a map was found to have no cut vertex: it begins at vertex 0, and sees the first of its list next.
use Rattle.std.specs.Prelude.{ℕ, ◌<◌, ◌≡◌, List, length, slice_index}
use Rattle.map_lists.specs.Lists.{Lists}
use Rattle.map_theory.specs.Maps.{list_of}
use Rattle.graph_search.specs.Forests.{IsForestOf}
use Rattle.graph_search.specs.Lows.{AreLows}

-- the search begins with vertex 0 and, if it has a neighbour, goes on to the first of its list
pub record IsFirstSearch (lists : Lists) (number : List ℕ) : Type 0 where
  pub first : 0 < length (list_of lists 0) → slice_index number 0 ≡ 0
  pub second : 0 < length (list_of lists 0) → slice_index number (slice_index (list_of lists 0) 0) ≡ 1

-- a finished search that begins so, with its low points
pub record IsSearchOf (lists : Lists) (order number last parent low : List ℕ) : Type 0 where
  pub is_forest : IsForestOf lists order number last parent
  pub lows : AreLows lists number last low
  pub begins : IsFirstSearch lists number
