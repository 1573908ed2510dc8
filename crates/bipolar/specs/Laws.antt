-- The laws of dual numbers and of the drawing that they give.
use Rattle.std.specs.Prelude.{ℕ, ◌-◌, ◌<◌, ◌≡◌, List, pos}
use Rattle.map_lists.specs.Lists.{Lists}
use Rattle.map_theory.specs.Maps.{Dart, HasDart, IsSimpleMap, IsPlane, component_count, face_count}
use Rattle.pg_plane.specs.declared.figures.BarFigure.{BarFigure}
use Rattle.st_orders.specs.StOrders.{IsStOrder}
use Rattle.drawings.specs.Bars.{IsValidBars}
use Rattle.bipolar.specs.DualNumbers.{IsFaceNumbering, AreDualNumbers}
use Rattle.bipolar.specs.Drawn.{IsDrawnBy}

-- a connected map of genus zero with an st-order for the dart (s, t)
pub record IsStMap (lists : Lists) (s t : ℕ) (at rank : List ℕ) : Type 0 where
  pub simple : IsSimpleMap lists
  pub plane : IsPlane lists
  pub connected : component_count lists ≡ 1
  pub dart : HasDart lists s t
  pub order : IsStOrder lists s t at rank

-- An st-order of a connected map of genus zero has just one numbering of the faces, whose numbers are below the number of faces.
pub record HasOneNumbering (lists : Lists) (rank : List ℕ) (s t : ℕ) : Type 0 where
  pub some : (number : Dart → ℕ) × IsFaceNumbering lists rank s t number
  pub one : (a b : Dart → ℕ) → IsFaceNumbering lists rank s t a → IsFaceNumbering lists rank s t b → (d : Dart) → HasDart lists d.0 d.1 → a d ≡ b d
  pub below : (a : Dart → ℕ) → IsFaceNumbering lists rank s t a → (d : Dart) → HasDart lists d.0 d.1 → a d < face_count lists

-- Each st-order of a connected map of genus zero has exactly one such numbering.
abbrev pub NumberingIsOne : Type 0
NumberingIsOne =
    (lists : Lists) (s t : ℕ) (at rank : List ℕ) → IsStMap lists s t at rank → HasOneNumbering lists rank s t

-- An st-order and its dual numbers give valid bars, over a width of one less than the number of faces.
abbrev pub DualNumbersAreBars : Type 0
DualNumbersAreBars =
    (lists : Lists) (s t : ℕ) (at rank columns : List ℕ) (fig : BarFigure) → IsStMap lists s t at rank → AreDualNumbers lists rank s t columns → IsDrawnBy lists rank columns fig → IsValidBars lists fig (pos (face_count lists - 1))
