-- A Schnyder wood in arrays: the parents of each vertex.
use Rattle.std.specs.Prelude.{ℕ, ◌<◌, ◌≡◌, ◌⊎◌, List, length, slice_index}
use Rattle.map_lists.specs.Lists.{Lists}
use Rattle.grid_figures.specs.Orders.{IsDrawingOrder}
use Rattle.grid_figures.specs.declared.drawing_orders.completed_records.DrawingOrder.{DrawingOrder}
use Rattle.wood_runs.specs.Parents.{Colour, one, two, three}
use Rattle.schnyder_wood.specs.Parents.{Parents, IsWoodOf, IsRoot, count_in, parent_in}
use Rattle.pigale_c.specs.Arrays.{lists_in, IsGivenMap}
use Rattle.pigale_c.specs.Drawn.{IsServed, IsFirstRefusal}
use Rattle.pigale_c.specs.Failures.{Fails}
use Rattle.pigale_c.specs.declared.outcome.Outcome.{Outcome}
use Rattle.pigale_c.specs.declared.outcome.Outcome.TheVariants.{Served, Failed}

-- a map, and room for three parents of each vertex
pub record IsGivenWood (ends neighbours ones twos threes : List ℕ) : Type 0 where
  pub map : IsGivenMap ends neighbours
  pub first : length ones ≡ length ends
  pub second : length twos ≡ length ends
  pub third : length threes ≡ length ends

-- the parent of v of a colour, or v itself, if it is a root
abbrev pub IsParentOr : Parents → Colour → ℕ → ℕ → Type 0
IsParentOr wood c v u = (IsRoot wood v × (u ≡ v)) ⊎ ((¬ IsRoot wood v) × (u ≡ parent_in wood c v))

-- an array has these parents of one colour
pub record AreParents (wood : Parents) (c : Colour) (parents : List ℕ) : Type 0 where
  pub count : length parents ≡ count_in wood
  pub each : (v : ℕ) → v < count_in wood → IsParentOr wood c v (slice_index parents v)

-- Three arrays have the parents in a wood of a completion with a canonical order: its roots are the first, the second and the last vertex of the order.
pub record IsWoodThere (lists : Lists) (ones twos threes : List ℕ) : Type 0 where
  pub found : DrawingOrder
  pub drawing_order : IsDrawingOrder lists found
  pub wood : Parents
  pub wood_is : IsWoodOf found.tri.lists (0, drawing_order.to) wood
  pub ones_are : AreParents wood one ones
  pub twos_are : AreParents wood two twos
  pub threes_are : AreParents wood three threes

-- The map is served, and the arrays have a wood of it; or the call failed, and they are as they were.
abbrev pub IsWoodWritten : List ℕ → List ℕ → List ℕ → List ℕ → List ℕ → List ℕ → List ℕ → List ℕ → Outcome → Type 0
IsWoodWritten ends neighbours ones twos threes ones' twos' threes' Served =
    IsGivenWood ends neighbours ones twos threes × IsServed (lists_in ends neighbours) × IsWoodThere (lists_in ends neighbours) ones' twos' threes'
IsWoodWritten ends neighbours ones twos threes ones' twos' threes' (Failed failure) =
    Fails (IsGivenWood ends neighbours ones twos threes) (IsFirstRefusal (lists_in ends neighbours)) failure × (ones' ≡ ones) × (twos' ≡ twos) × (threes' ≡ threes)
IsWoodWritten ends neighbours ones twos threes ones' twos' threes' outcome = ⊥
