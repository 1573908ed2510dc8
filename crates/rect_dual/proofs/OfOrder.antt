-- The tables of a rectangular order tell an edge labelling of its map.
use Rattle.std.proofs.Common.{◌≡◌, ◌≢◌, ℕ, suc, ◌+◌, ◌-◌, ◌<◌, Bool, List, length, get_or, sym, ap, ap₂, ◌∙◌, subst, inl, inr, arith}
use Rattle.std.proofs.lemmas.Bool.{cases_lt}
use Rattle.map_lists.specs.Lists.{Lists}
use Rattle.map_theory.specs.Maps.{HasDart}
use Rattle.contour_runs.specs.Runs.{Step}
use Rattle.rect_runs.specs.Boxes.{IsRectRun}
use Rattle.order_drawings.specs.OrderRuns.{IsOrderRun, OrderIsRun}
use Rattle.order_drawings.specs.Rows.{AreRows}
use Rattle.rect_orders.specs.Maps.{closed}
use Rattle.rect_orders.specs.Orders.{IsRectOrder}
use Rattle.rect_orders.specs.Runs.{shortened, IsRunOfMap, RectOrderIsRun}
use Rattle.rect_orders.proofs.Closed.{length-closed, face_tsd}
use Rattle.rect_dual.specs.Turns.{AreTurns}
use Rattle.rect_runs.specs.Ends.{IsEndAt}
use Rattle.rect_runs.proofs.RectEndsEnds.{ends_agree}
use Rattle.rect_orders.specs.Labellings.{IsFrameEdge, AreEndsOf, IsEdgeLabelling, LabelsOfOrder}
use Rattle.rect_dual.specs.RectDrawTables.{HasLowerRows}
use Rattle.rect_dual.proofs.Drawn.{found, rows_are}
use Rattle.rect_dual.specs.EdgeLabelsTables.{AreFirsts, AreLefts, end_at, end_by}
use Rattle.rect_dual.proofs.OfRun.{end_at-earlier, end_at-later, earlier_end}

module _ (lists : Lists) (s d p t : ℕ) (at ranks : List ℕ) (rows : Lists) (h : HasLowerRows lists s d p t at ranks rows) (runs : OrderIsRun) (law : RectOrderIsRun) where
  abbrev order : IsRectOrder lists s d p t at
  order = h.order

  abbrev of_run : (x : ℕ → Step) × IsOrderRun (closed lists s d p t) (t, s) at order.canonical.cycle x
  of_run = found lists s d p t at ranks rows h runs

  abbrev pub short : ℕ → Step
  short = shortened of_run.0 (length at - 3)

  abbrev name : ℕ → ℕ
  name i = get_or at i 0

  of_map : IsRunOfMap lists at short
  of_map = law lists s d p t at of_run.0 h.class order of_run.1

  pub short_rows : AreRows short rows
  short_rows = rows_are lists s d p t at ranks rows h runs

  pub size : (length at ≡ length lists) × (length rows + 3 ≡ length at) × (4 < length lists)
  size = let c = order.canonical.count in let e = length-closed lists s d p t h.class in (omega (arith, c, e), h.lower.count, h.class.large)

  rect : IsRectRun short (length rows)
  rect = let z = size in let m = z.1 in let e : length at - 3 ≡ length rows = omega arith in subst (IsRectRun short) e of_map.run

  top : name (length at - 1) ≡ d
  top =
      let e : length (closed lists s d p t) - 1 ≡ length at - 1 = omega (arith, order.canonical.count) in
      ap name (sym e) ∙ (order.canonical.last ∙ (face_tsd lists s d p t h.class).second)

  -- a dart between different places
  apart : (i j : ℕ) → HasDart lists (name i) (name j) → i ≢ j
  apart i j has e = h.class.near.simple.no_loop (name i) (name j) has (ap name (sym e))

  module _ (places : List ℕ) (at_runs : List Bool) (first left : List ℕ) (turns : AreTurns short (length rows) places at_runs) (a : AreFirsts rows (length rows) first) (b : AreLefts rows places (length rows) left) where
    -- at the earlier end
    earlier : (i j : ℕ) → i < j → j < length at → HasDart lists (name i) (name j) → ¬ IsFrameEdge s d p t (name i) (name j) → IsEndAt short (length at - 2) i j (end_at first left i j)
    earlier i j l m has off =
        let z = size in
        let n = z.1 in
        let e : suc (length rows) ≡ length at - 2 = omega arith in
        subst (λ k. IsEndAt short k i j (end_at first left i j)) e
        (subst (IsEndAt short (suc (length rows)) i j) (sym (end_at-earlier first left i j l))
        (elim ((of_map.joined i j l m).0 has) [
          | inl base ↦
              let i_is : name i ≡ s = ap name base.0 ∙ order.canonical.built.first in
              let j_is : name j ≡ t = ap name base.1 ∙ order.canonical.built.second in
              absurd (off (inr (inr (inr (inr (j_is, i_is))))))
          | inr (k, k_in, over) ↦
              earlier_end short rows places at_runs first left short_rows turns a b rect k i j (omega arith) over
              (λ last u.
              let new = over.new in
              let j_last : j ≡ length at - 1 = omega arith in
              let i_is : name i ≡ s = ap name u ∙ order.canonical.built.first in
              let j_is : name j ≡ d = ap name j_last ∙ top in
              off (inl (inl (i_is, j_is))))
        ]))

    turned : (u v : ℕ) → ¬ IsFrameEdge s d p t u v → ¬ IsFrameEdge s d p t v u
    turned u v off f = off (elim f [ inl x ↦ inr x | inr x ↦ inl x ])

    -- at either end
    either : (i j : ℕ) → i < length at → j < length at → HasDart lists (name i) (name j) → ¬ IsFrameEdge s d p t (name i) (name j) → IsEndAt short (length at - 2) i j (end_at first left i j)
    either i j l m has off = elim (cases_lt i j) [
      | inl less ↦ earlier i j less m has off
      | inr le ↦
          let ne = apart i j has in
          let less : j < i = omega arith in
          let other = earlier j i less l (h.class.near.simple.both_ways (name i) (name j) has) (turned (name i) (name j) off) in
          subst (IsEndAt short (length at - 2) i j) (sym (end_at-later first left j i less)) (ends_agree short (length at - 2) j i (end_at first left j i) other)
    ]

    ends : AreEndsOf lists s d p t at of_run.0 (end_by first left ranks)
    ends i j l m has off =
        subst (IsEndAt short (length at - 2) i j) (sym (ap₂ (end_at first left) (h.rank.of_place i l) (h.rank.of_place j m))) (either i j l m has off)

    pub labelling : LabelsOfOrder → IsEdgeLabelling lists s d p t (end_by first left ranks)
    labelling labels = labels lists s d p t at ranks of_run.0 (end_by first left ranks) h.class order h.rank of_run.1 ends
