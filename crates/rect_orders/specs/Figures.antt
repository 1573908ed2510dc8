-- Figures that have the boxes of a run, and rectangular duals for any base dart.
use Rattle.std.specs.Prelude.{ℕ, ◌-◌, ◌<◌, ◌≡◌, ◌↔◌, List, length, slice_index, pos, ◌*ℤ◌}
use Rattle.map_lists.specs.Lists.{Lists}
use Rattle.map_theory.specs.Maps.{HasDart}
use Rattle.pg_plane.specs.declared.figures.RectFigure.{RectFigure}
use Rattle.contour_runs.specs.Runs.{Step}
use Rattle.canon_order.specs.Orders.{IsRankOf}
use Rattle.rect_runs.specs.Boxes.{Boxes, boxes}
use Rattle.drawings.specs.Duals.{HasRects, IsRect, DoMeet, ShareSide, IsFramed, IsRectangularDual, area_of, width_of, height_of, left_of, right_of, low_of, high_of, top_vertex}
use Rattle.rect_orders.specs.Maps.{IsRectMap}
use Rattle.rect_orders.specs.Orders.{IsRectOrder}
use Rattle.rect_orders.specs.Runs.{IsRunOfMap}

-- each vertex has the box of its rank
pub record AreBoxesAt (b : Boxes) (lists : Lists) (ranks : List ℕ) (fig : RectFigure) : Type 0 where
  pub shape : HasRects lists fig
  pub left : (v : ℕ) → v < length lists → left_of fig v ≡ pos (b.left (slice_index ranks v))
  pub right : (v : ℕ) → v < length lists → right_of fig v ≡ pos (b.right (slice_index ranks v))
  pub low : (v : ℕ) → v < length lists → low_of fig v ≡ pos (b.low (slice_index ranks v))
  pub high : (v : ℕ) → v < length lists → high_of fig v ≡ pos (b.high (slice_index ranks v))

-- A rectangular dual of a map whose outer face goes along s, d, p and t: rectangles within n - 2 by n - 2 that fill a rectangle without overlap, of which two share a side of positive length exactly where their vertices are adjacent; s at the left, d along the top, p at the right and t along the bottom.
pub record IsDualFor (lists : Lists) (s d p t : ℕ) (fig : RectFigure) : Type 0 where
  pub rects : (v : ℕ) → v < length lists → IsRect (length lists) fig v
  pub apart : (u v : ℕ) → u < v → v < length lists → ¬ DoMeet fig u v
  pub areas : area_of fig (length lists) ≡ (width_of fig *ℤ height_of fig)
  pub contacts : (u v : ℕ) → u < v → v < length lists → ShareSide fig u v ↔ HasDart lists u v
  pub framed : IsFramed fig s d p t

-- The boxes of a rectangular order are a rectangular dual of its map.
abbrev pub BoxesAreDualOfMap : Type 0
BoxesAreDualOfMap =
    (lists : Lists) (s d p t : ℕ) (at ranks : List ℕ) (steps : ℕ → Step) (fig : RectFigure) → IsRectOrder lists s d p t at → IsRectMap lists s d p t → IsRankOf ranks at → IsRunOfMap lists at steps → AreBoxesAt (boxes steps (length at - 3)) lists ranks fig → IsDualFor lists s d p t fig

-- For the dart from vertex 0 to the first entry of its list.
abbrev pub DualForFirst : Type 0
DualForFirst =
    (lists : Lists) (p t : ℕ) (fig : RectFigure) → IsRectMap lists 0 (top_vertex lists) p t → IsDualFor lists 0 (top_vertex lists) p t fig → IsRectangularDual lists fig
