-- The boxes of an order's run at the vertices of its map.
use Rattle.std.proofs.Common.{◌≡◌, ℕ, suc, ◌+◌, ◌-◌, ◌<◌, List, length, get_or, All, pos, ap, ◌∙◌, subst, arith}
use Rattle.map_lists.specs.Lists.{Lists}
use Rattle.pg_plane.specs.declared.figures.RectFigure.{RectFigure}
use Rattle.contour_runs.specs.Runs.{Step}
use Rattle.order_drawings.specs.OrderRuns.{IsOrderRun, OrderIsRun}
use Rattle.order_drawings.specs.Rows.{AreRows}
use Rattle.rect_runs.specs.Labels.{IsLabelledRun}
use Rattle.rect_runs.proofs.Steps.{IsLabelledRun-less}
use Rattle.rect_runs.specs.Boxes.{boxes}
use Rattle.rect_runs.specs.RectBoxesLaws.{BoxesAreDual}
use Rattle.drawings.specs.Duals.{HasRects, top_vertex, right_vertex, bottom_vertex}
use Rattle.rect_class.specs.Laws.{BiconnectedAreRectMaps}
use Rattle.rect_class.specs.RectMaps.{IsRectMap as IsOfClass}
use Rattle.rect_orders.specs.Maps.{IsRectMap, closed}
use Rattle.rect_orders.specs.Orders.{IsRectOrder}
use Rattle.rect_orders.specs.Runs.{shortened, IsRunOfMap, RectOrderIsRun}
use Rattle.rect_orders.proofs.Closed.{length-closed}
use Rattle.rect_orders.specs.Figures.{AreBoxesAt, IsDualFor, BoxesAreDualOfMap}
use Rattle.rect_orders.specs.Labellings.{IsByLabelling, BoxesByLabelling}
use Rattle.rect_dual.specs.RectDrawTables.{AreBoxTables, AreSmall, AreAtRanks, HasLowerRows}

-- a fact about four vertices, by other names of them
pub by_names : (P : ℕ → ℕ → ℕ → ℕ → Type 0) (s s' d d' p p' t t' : ℕ) → s ≡ s' → d ≡ d' → p ≡ p' → t ≡ t' → P s d p t → P s' d' p' t'
by_names P s s' d d' p p' t t' a b c e h = subst (λ z. P s' d' p' z) e (subst (λ z. P s' d' z t) c (subst (λ z. P s' z p t) b (subst (λ z. P z d p t) a h)))

-- a map of the class of the job has its outer face along four vertices
pub class_of : (lists : Lists) → IsOfClass lists → BiconnectedAreRectMaps → IsRectMap lists 0 (top_vertex lists) (right_vertex lists) (bottom_vertex lists)
class_of lists h all = let q = all lists h in record { connected = q.connected; large = q.more; near = q.near; no_separating = q.triangles }

module _ (lists : Lists) (s d p t : ℕ) (at ranks : List ℕ) (rows : Lists) (h : HasLowerRows lists s d p t at ranks rows) (runs : OrderIsRun) where
  abbrev order : IsRectOrder lists s d p t at
  order = h.order

  pub found : (steps : ℕ → Step) × IsOrderRun (closed lists s d p t) (t, s) at order.canonical.cycle steps
  found = runs (closed lists s d p t) (t, s) at h.triangulation order.canonical

  abbrev n : ℕ
  n = length at - 3

  abbrev pub steps : ℕ → Step
  steps = shortened found.0 n

  pub rows_are : AreRows steps rows
  rows_are = h.lower.of_run (t, s) order.canonical found.0 found.1

  many : (length at ≡ length lists) × (length rows + 3 ≡ length at)
  many = let c = order.canonical.count in let e = length-closed lists s d p t h.class in (omega (arith, c, e), h.lower.count)

  -- each of its steps is labelled
  pub labelled : RectOrderIsRun → IsLabelledRun steps (length rows)
  labelled law =
      let m = many in
      let c = m.1 in
      let run = law lists s d p t at found.0 h.class order found.1 in
      IsLabelledRun-less steps (length rows) (suc n) (omega arith) run.run.labelled

  module _ (rect_run : RectOrderIsRun) (left right low high : List ℕ) (tables : AreBoxTables (boxes steps (length rows)) (length rows + 3) left right low high) where
    of_map : IsRunOfMap lists at steps
    of_map = rect_run lists s d p t at found.0 h.class order found.1

    tables_are : AreBoxTables (boxes steps n) (n + 3) left right low high
    tables_are = let m = many in let c = m.1 in let z : length rows ≡ n = omega arith in subst (λ k. AreBoxTables (boxes steps k) (k + 3) left right low high) z tables

    pub tables_small : BoxesAreDual → length lists < 4096 → AreSmall (length ranks) left right low high
    tables_small law few =
        let dual = law steps n of_map.run in
        let large = h.class.large in
        let m = many in
        let m0 = m.0 in
        let r = h.rank.count in
        let bound = dual.bounded in
        let b0 = bound.0 in
        let b1 = bound.1 in
        record {
          left_small = λ k l.
              let o : k < n + 3 = omega arith in
              let w = dual.filling.wide k o in
              let i = (dual.filling.within k o).0 in
              omega (arith, tables_are.left_is k o, w, i);
          right_small = λ k l.
              let o : k < n + 3 = omega arith in
              let i = (dual.filling.within k o).0 in
              omega (arith, tables_are.right_is k o, i);
          low_small = λ k l.
              let o : k < n + 3 = omega arith in
              let w = dual.filling.tall k o in
              let i = (dual.filling.within k o).1 in
              omega (arith, tables_are.low_is k o, w, i);
          high_small = λ k l.
              let o : k < n + 3 = omega arith in
              let i = (dual.filling.within k o).1 in
              omega (arith, tables_are.high_is k o, i);
        }

    module _ (places : All (λ k. k < length ranks) ranks) (fig : RectFigure) (x1 : AreAtRanks left ranks fig.x1) (x2 : AreAtRanks right ranks fig.x2) (y1 : AreAtRanks low ranks fig.y1) (y2 : AreAtRanks high ranks fig.y2) where
      within : (v : ℕ) → v < length lists → get_or ranks v 0 < n + 3
      within v l =
          let m = many in
          let m0 = m.0 in
          let r = h.rank.count in
          let large = h.class.large in
          let q = places v 0 (omega arith) in
          omega arith

      pub rects : HasRects lists fig
      rects =
          let m = many in
          let m0 = m.0 in
          let r = h.rank.count in
          record { x1 = omega (arith, x1.count); x2 = omega (arith, x2.count); y1 = omega (arith, y1.count); y2 = omega (arith, y2.count) }

      boxes_at : AreBoxesAt (boxes steps n) lists ranks fig
      boxes_at =
          let m = many in
          let m0 = m.0 in
          let r = h.rank.count in
          record {
            shape = rects;
            left = λ v l. x1.at v (omega arith) ∙ ap pos (tables_are.left_is (get_or ranks v 0) (within v l));
            right = λ v l. x2.at v (omega arith) ∙ ap pos (tables_are.right_is (get_or ranks v 0) (within v l));
            low = λ v l. y1.at v (omega arith) ∙ ap pos (tables_are.low_is (get_or ranks v 0) (within v l));
            high = λ v l. y2.at v (omega arith) ∙ ap pos (tables_are.high_is (get_or ranks v 0) (within v l));
          }

      pub drawn_dual : BoxesAreDualOfMap → IsDualFor lists s d p t fig
      drawn_dual law = law lists s d p t at ranks steps fig order h.class h.rank of_map boxes_at

      pub drawn_by_labels : BoxesByLabelling → IsByLabelling lists s d p t fig
      drawn_by_labels law = law lists s d p t at ranks found.0 fig h.class order h.rank found.1 boxes_at
