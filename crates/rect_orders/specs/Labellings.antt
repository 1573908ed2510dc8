-- Edge labellings of maps whose outer face goes along four vertices: the left one, the top, the right one and the bottom.
use Rattle.std.specs.Prelude.{ℕ, ◌-◌, ◌<◌, ◌≡◌, ◌≢◌, ◌⊎◌, List, map, length, slice_index}
use Rattle.map_lists.specs.Lists.{Lists}
use Rattle.map_theory.specs.Maps.{HasDart, list_of}
use Rattle.pg_plane.specs.declared.figures.RectFigure.{RectFigure}
use Rattle.contour_runs.specs.Runs.{Step}
use Rattle.rect_runs.specs.Corners.{End, run_in, rise_out, run_out, rise_in}
use Rattle.order_drawings.specs.OrderRuns.{IsOrderRun}
use Rattle.rect_orders.specs.Maps.{IsRectMap, closed}
use Rattle.rect_orders.specs.Orders.{IsRectOrder}
use Rattle.rect_orders.specs.Runs.{shortened}
use Rattle.canon_order.specs.Orders.{IsRankOf}
use Rattle.rect_runs.specs.Ends.{IsEndAt, other_end}
use Rattle.rect_runs.specs.Rounds.{IsOnceRound}
use Rattle.rect_runs.specs.Boxes.{boxes}
use Rattle.drawings.specs.Duals.{left_of, right_of, low_of, high_of}
use Rattle.rect_orders.specs.Figures.{AreBoxesAt}

-- v comes after u along the outer face
abbrev pub IsSide : ℕ → ℕ → ℕ → ℕ → ℕ → ℕ → Type 0
IsSide s d p t u v = ((u ≡ s) × (v ≡ d)) ⊎ (((u ≡ d) × (v ≡ p)) ⊎ (((u ≡ p) × (v ≡ t)) ⊎ ((u ≡ t) × (v ≡ s))))

-- u and v are the ends of an edge of the outer face
abbrev pub IsFrameEdge : ℕ → ℕ → ℕ → ℕ → ℕ → ℕ → Type 0
IsFrameEdge s d p t u v = IsSide s d p t u v ⊎ IsSide s d p t v u

-- Each edge off the outer face is a run or a rise, with a direction: the edge between u and v stands at u as `end u v`, and its two ends agree. Clockwise round each inner vertex stand leaving rises, leaving runs, entering rises and entering runs, at least one of each. Runs leave the left vertex, rises enter the top, runs enter the right one, and rises leave the bottom.
pub record IsEdgeLabelling (lists : Lists) (s d p t : ℕ) (end : ℕ → ℕ → End) : Type 0 where
  pub agree : (u v : ℕ) → HasDart lists u v → ¬ IsFrameEdge s d p t u v → end v u ≡ other_end (end u v)
  pub around : (v : ℕ) → v < length lists → v ≢ s → v ≢ d → v ≢ p → v ≢ t → IsOnceRound (map (end v) (list_of lists v))
  pub left : (u : ℕ) → HasDart lists s u → u ≢ d → u ≢ t → end s u ≡ run_out
  pub top : (u : ℕ) → HasDart lists d u → u ≢ s → u ≢ p → end d u ≡ rise_in
  pub right : (u : ℕ) → HasDart lists p u → u ≢ d → u ≢ t → end p u ≡ run_in
  pub bottom : (u : ℕ) → HasDart lists t u → u ≢ p → u ≢ s → end t u ≡ rise_out

-- each edge off the outer face stands at both ends as in a run
abbrev pub AreEndsOf : Lists → ℕ → ℕ → ℕ → ℕ → List ℕ → (ℕ → Step) → (ℕ → ℕ → End) → Type 0
AreEndsOf lists s d p t at steps end =
    (i j : ℕ) → i < length at → j < length at → HasDart lists (slice_index at i) (slice_index at j) → ¬ IsFrameEdge s d p t (slice_index at i) (slice_index at j) → IsEndAt (shortened steps (length at - 3)) (length at - 2) i j (end (slice_index at i) (slice_index at j))

-- The ends of edges in the run of a rectangular order are an edge labelling.
abbrev pub LabelsOfOrder : Type 0
LabelsOfOrder =
    (lists : Lists) (s d p t : ℕ) (at ranks : List ℕ) (steps : ℕ → Step) (end : ℕ → ℕ → End) → IsRectMap lists s d p t → (order : IsRectOrder lists s d p t at) → IsRankOf ranks at → IsOrderRun (closed lists s d p t) (t, s) at order.canonical.cycle steps
    → AreEndsOf lists s d p t at steps end → IsEdgeLabelling lists s d p t end

-- The rectangles come of an edge labelling: along each run the one ends on the right where the other begins, and along each rise the one ends above where the other begins.
pub record IsByLabelling (lists : Lists) (s d p t : ℕ) (fig : RectFigure) : Type 0 where
  pub end : ℕ → ℕ → End
  pub labelling : IsEdgeLabelling lists s d p t end
  pub runs : (u v : ℕ) → HasDart lists u v → ¬ IsFrameEdge s d p t u v → end u v ≡ run_out → right_of fig u ≡ left_of fig v
  pub rises : (u v : ℕ) → HasDart lists u v → ¬ IsFrameEdge s d p t u v → end u v ≡ rise_out → high_of fig u ≡ low_of fig v

-- The boxes of a rectangular order come of one.
abbrev pub BoxesByLabelling : Type 0
BoxesByLabelling =
    (lists : Lists) (s d p t : ℕ) (at ranks : List ℕ) (steps : ℕ → Step) (fig : RectFigure) → IsRectMap lists s d p t → (order : IsRectOrder lists s d p t at) → IsRankOf ranks at → IsOrderRun (closed lists s d p t) (t, s) at order.canonical.cycle steps
    → AreBoxesAt (boxes (shortened steps (length at - 3)) (length at - 3)) lists ranks fig → IsByLabelling lists s d p t fig
