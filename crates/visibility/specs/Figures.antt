-- The figure of a record by bars: valid, and the one of an st-order and its dual numbers.
use Rattle.std.specs.Prelude.{ℕ, ◌-◌, ◌≡◌, List, slice_index, pos}
use Rattle.map_lists.specs.Lists.{Lists}
use Rattle.map_theory.specs.Maps.{list_of, face_count, component_count}
use Rattle.graph_search.specs.Forests.{IsForestOf}
use Rattle.graph_search.specs.Lows.{AreLows}
use Rattle.graph_search.specs.Cuts.{IsCutVertex}
use Rattle.pg_plane.specs.declared.figures.BarFigure.{BarFigure}
use Rattle.drawings.specs.Bars.{HasBars, IsValidBars}
use Rattle.st_orders.specs.StOrders.{IsStOrder}
use Rattle.bipolar.specs.DualNumbers.{AreDualNumbers}
use Rattle.bipolar.specs.Drawn.{IsDrawnBy}

-- The heights are an st-order from s to t, the columns are its dual numbers, and each bar reaches from its least column to its greatest.
pub record IsStDrawing (lists : Lists) (s t : ℕ) (fig : BarFigure) : Type 0 where
  pub at : List ℕ
  pub rank : List ℕ
  pub columns : List ℕ
  pub order : IsStOrder lists s t at rank
  pub numbers : AreDualNumbers lists rank s t columns
  pub drawn : IsDrawnBy lists rank columns fig

-- The bars are valid over a width of one less than the number of faces, and drawn from vertex 0 to the first of its list.
pub record IsBarFigure (lists : Lists) (fig : BarFigure) : Type 0 where
  pub bars : HasBars lists fig
  pub valid : IsValidBars lists fig (pos (face_count lists - 1))
  pub placed : IsStDrawing lists 0 (slice_index (list_of lists 0) 0) fig

-- a search from vertex 0 that sees t next, with its low points
pub record IsSearchFrom (lists : Lists) (t : ℕ) (order number last parent low : List ℕ) : Type 0 where
  pub forest : IsForestOf lists order number last parent
  pub lows : AreLows lists number last low
  pub first : slice_index number 0 ≡ 0
  pub second : slice_index number t ≡ 1

-- a search from vertex 0 that sees t next, of a connected map without cut vertices
pub record IsUncutSearch (lists : Lists) (t : ℕ) (order number last parent low : List ℕ) : Type 0 where
  pub connected : component_count lists ≡ 1
  pub uncut : (v : ℕ) → ¬ IsCutVertex lists v
  pub search : IsSearchFrom lists t order number last parent low
