-- An st-order in an array: the place of each vertex.
use Rattle.std.specs.Prelude.{ℕ, ◌≡◌, List, length, slice_index}
use Rattle.map_lists.specs.Lists.{Lists}
use Rattle.map_theory.specs.Maps.{list_of}
use Rattle.conn_parts.specs.BiconnectedMaps.{IsBiconnectedMap, BreaksFirst}
use Rattle.st_orders.specs.StOrders.{IsStOrder}
use Rattle.pigale_c.specs.Arrays.{lists_in, IsGivenMap}
use Rattle.pigale_c.specs.Failures.{Fails}
use Rattle.pigale_c.specs.declared.outcome.Outcome.{Outcome}
use Rattle.pigale_c.specs.declared.outcome.Outcome.TheVariants.{Served, Failed}

-- a map, and room for a number of each vertex
pub record IsGivenRanks (ends neighbours rank : List ℕ) : Type 0 where
  pub map : IsGivenMap ends neighbours
  pub count : length rank ≡ length ends

-- the places in an st-order from vertex 0 to the first of its list
abbrev pub AreStRanks : Lists → List ℕ → Type 0
AreStRanks lists rank = (at : List ℕ) × IsStOrder lists 0 (slice_index (list_of lists 0) 0) at rank

-- The map is served, and the array has an st-order of it; or the call failed, and it is as it was.
abbrev pub IsStWritten : List ℕ → List ℕ → List ℕ → List ℕ → Outcome → Type 0
IsStWritten ends neighbours rank rank' Served =
    IsGivenRanks ends neighbours rank × IsBiconnectedMap 3 (lists_in ends neighbours) × AreStRanks (lists_in ends neighbours) rank'
IsStWritten ends neighbours rank rank' (Failed failure) =
    Fails (IsGivenRanks ends neighbours rank) (BreaksFirst 3 (lists_in ends neighbours)) failure × (rank' ≡ rank)
IsStWritten ends neighbours rank rank' outcome = ⊥
