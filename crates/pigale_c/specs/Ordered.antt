-- A canonical order in an array, and the triangulation that it is of.
use Rattle.std.specs.Prelude.{ℕ, ◌≡◌, ◌⊎◌, List, length}
use Rattle.map_lists.specs.Cuts.{joined, ends_from}
use Rattle.map_lists.specs.Lists.{Lists}
use Rattle.canon_order.specs.Orders.{vertices_of}
use Rattle.grid_figures.specs.Orders.{IsDrawingOrder}
use Rattle.grid_figures.specs.declared.drawing_orders.completed_records.DrawingOrder.{DrawingOrder}
use Rattle.pigale_c.specs.Arrays.{lists_in, IsGivenMap}
use Rattle.pigale_c.specs.Drawn.{IsServed, IsFirstRefusal}
use Rattle.pigale_c.specs.Failures.{Fails}
use Rattle.pigale_c.specs.Written.{AreWritten, HasNoRoom, written_over}
use Rattle.pigale_c.specs.declared.outcome.Outcome.{Outcome}
use Rattle.pigale_c.specs.declared.outcome.Outcome.TheVariants.{Served, Failed}
use Rattle.pigale_c.specs.declared.outcome.Failure.TheVariants.{BadArgument}

-- a map, and room for its vertices
pub record IsGivenOrder (ends neighbours order : List ℕ) : Type 0 where
  pub map : IsGivenMap ends neighbours
  pub count : length order ≡ length ends

-- An array has a canonical order of a completion, and at the fronts of two more stand the ends and the neighbours of the completion.
pub record IsOrderThere (lists : Lists) (order ends neighbours order' ends' neighbours' : List ℕ) : Type 0 where
  pub found : DrawingOrder
  pub drawing_order : IsDrawingOrder lists found
  pub order_is : order' ≡ written_over order (vertices_of found.order)
  pub written : AreWritten (ends_from 0 found.tri.lists) (joined found.tri.lists) ends neighbours ends' neighbours'

-- two arrays are too short for the completion that was found
abbrev pub HasNoRoomForOrder : Lists → List ℕ → List ℕ → Type 0
HasNoRoomForOrder lists ends neighbours =
    (found : DrawingOrder) × IsDrawingOrder lists found × HasNoRoom (ends_from 0 found.tri.lists) (joined found.tri.lists) ends neighbours

-- The map is served, and the arrays have an order of it; or the call failed, and they are as they were.
abbrev pub IsOrderWritten : List ℕ → List ℕ → List ℕ → List ℕ → List ℕ → List ℕ → List ℕ → List ℕ → Outcome → Type 0
IsOrderWritten ends neighbours order full_ends full order' full_ends' full' Served =
    IsGivenOrder ends neighbours order × IsServed (lists_in ends neighbours) × IsOrderThere (lists_in ends neighbours) order full_ends full order' full_ends' full'
IsOrderWritten ends neighbours order full_ends full order' full_ends' full' (Failed BadArgument) =
    ((¬ IsGivenOrder ends neighbours order) ⊎ HasNoRoomForOrder (lists_in ends neighbours) full_ends full) × (order' ≡ order) × (full_ends' ≡ full_ends) × (full' ≡ full)
IsOrderWritten ends neighbours order full_ends full order' full_ends' full' (Failed failure) =
    Fails (IsGivenOrder ends neighbours order) (IsFirstRefusal (lists_in ends neighbours)) failure × (order' ≡ order) × (full_ends' ≡ full_ends) × (full' ≡ full)
IsOrderWritten ends neighbours order full_ends full order' full_ends' full' outcome = ⊥
