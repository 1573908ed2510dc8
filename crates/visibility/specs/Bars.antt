-- The bars of an st-order.
use Rattle.std.specs.Prelude.{ℕ, ◌-◌, ◌≡◌, List, Some, pos}
use Rattle.map_theory.specs.Maps.{face_count}
use Rattle.pg_plane.specs.declared.figures.BarFigure.{BarFigure}
use Rattle.half_edges.specs.Map.{Map, dart_at}
use Rattle.st_orders.specs.StOrders.{IsStOrder}
use Rattle.drawings.specs.Bars.{HasBars, IsValidBars}
use Rattle.bipolar.specs.DualNumbers.{AreDualNumbers}
use Rattle.bipolar.specs.Drawn.{IsDrawnBy}

-- the heights are these ranks, the columns are their dual numbers for the dart of this id, and each bar reaches over the columns of its edges; and the bars are valid
pub record AreBarsOf (map : Map) (rank : List ℕ) (st : ℕ) (fig : BarFigure) : Type 0 where
  pub bars : HasBars map.lists fig
  pub drawn : (s t : ℕ) → dart_at map st ≡ Some (s, t) → (columns : List ℕ) × AreDualNumbers map.lists rank s t columns × IsDrawnBy map.lists rank columns fig
  pub valid : IsValidBars map.lists fig (pos (face_count map.lists - 1))

-- `AreBarsOf` for the ranks of some st-order
abbrev pub AreBarsFor : Map → ℕ → BarFigure → Type 0
AreBarsFor map st fig =
    (s t : ℕ) → dart_at map st ≡ Some (s, t) → (at : List ℕ) × (rank : List ℕ) × IsStOrder map.lists s t at rank × AreBarsOf map rank st fig
