-- The ends of edges in the run of a rectangular order, as a function of their vertices, and the boxes that meet along them.
use Rattle.std.proofs.Common.{◌≡◌, ℕ, suc, ◌+◌, ◌-◌, ◌<◌, ◌≤◌, List, length, get_or, pos, sym, ap, ap₂, subst, ◌∙◌, inl, inr, nat_lt, if◌then◌else◌, ltb, arith}
use Rattle.std.proofs.lemmas.Bool.{cases_order, cond-true, cond-false, lt-ltb, le-ltb}
use Rattle.map_lists.specs.Lists.{Lists}
use Rattle.map_theory.specs.Maps.{HasDart}
use Rattle.pg_plane.specs.declared.figures.RectFigure.{RectFigure}
use Rattle.contour_runs.specs.Runs.{Step, stage_after}
use Rattle.contour_runs.proofs.Stages.{IsStage-run, IsRun-less}
use Rattle.canon_order.specs.Orders.{IsRankOf}
use Rattle.order_drawings.specs.OrderRuns.{IsOrderRun}
use Rattle.rect_runs.specs.Numbers.{turn_of}
use Rattle.rect_runs.specs.Corners.{End, run_out, rise_out, at_older, at_new}
use Rattle.rect_runs.specs.Later.{StandsOver}
use Rattle.rect_runs.specs.Ends.{IsEndAt}
use Rattle.rect_runs.specs.Boxes.{boxes}
use Rattle.rect_runs.proofs.Top.{edges_meet}
use Rattle.drawings.specs.Duals.{left_of, right_of, low_of, high_of}
use Rattle.rect_orders.specs.Maps.{IsRectMap, closed}
use Rattle.rect_orders.specs.Orders.{IsRectOrder}
use Rattle.rect_orders.specs.Runs.{shortened, IsRunOfMap}
use Rattle.rect_orders.specs.Figures.{AreBoxesAt}
use Rattle.rect_orders.specs.Labellings.{IsFrameEdge, AreEndsOf, BoxesByLabelling}
use Rattle.rect_orders.proofs.Closed.{length-closed}
use Rattle.rect_orders.proofs.RunOfMap.{rect_order_is_run}
use Rattle.rect_orders.proofs.Around.{size, top, at_rank}
use Rattle.rect_orders.proofs.Frame.{labels_of_order}

module _ (lists : Lists) (s d p t : ℕ) (at ranks : List ℕ) (steps : ℕ → Step) (h : IsRectMap lists s d p t) (order : IsRectOrder lists s d p t at) (rank : IsRankOf ranks at) (run : IsOrderRun (closed lists s d p t) (t, s) at order.canonical.cycle steps) where
  abbrev sh : ℕ → Step
  sh = shortened steps (length at - 3)

  abbrev name : ℕ → ℕ
  name i = get_or at i 0

  of_map : IsRunOfMap lists at sh
  of_map = rect_order_is_run lists s d p t at steps h order run

  -- how the edge between i and j stands at i: by the step that puts the later one, and the place of the earlier one
  end_of : ℕ → ℕ → End
  end_of i j = if nat_lt i j then at_older (turn_of sh (j - 2)) ((stage_after sh (j - 2)).place i) else at_new (turn_of sh (i - 2)) ((stage_after sh (i - 2)).place j)

  -- the step and the place of a vertex that is put over another
  step_of : (k i j : ℕ) (over : StandsOver sh k i j) → j - 2 ≡ k
  step_of k i j over = let e = over.new in omega arith

  place_of_over : (k i j : ℕ) → k < length at - 2 → 3 ≤ length at → (over : StandsOver sh k i j) → (stage_after sh k).place i ≡ over.place
  place_of_over k i j l many over =
      let all = of_map.run.labelled.run in
      let in_run : k < suc (length at - 3) = omega arith in
      let w = (all k in_run).within in
      ap (stage_after sh k).place (sym over.vertex) ∙ (IsStage-run sh k (IsRun-less sh k (suc (length at - 3)) (omega arith) all)).own over.place (omega arith)

  end_of-earlier : (k i j : ℕ) → i < j → k < length at - 2 → 3 ≤ length at → (over : StandsOver sh k i j) → end_of i j ≡ at_older (turn_of sh k) over.place
  unfolding end_of
  end_of-earlier k i j l m many over =
      cond-true (ltb i j) (at_older (turn_of sh (j - 2)) ((stage_after sh (j - 2)).place i)) (at_new (turn_of sh (i - 2)) ((stage_after sh (i - 2)).place j)) (lt-ltb i j l)
      ∙ (ap (λ k. at_older (turn_of sh k) ((stage_after sh k).place i)) (step_of k i j over) ∙ ap (at_older (turn_of sh k)) (place_of_over k i j m many over))

  end_of-later : (k i j : ℕ) → j < i → k < length at - 2 → 3 ≤ length at → (over : StandsOver sh k j i) → end_of i j ≡ at_new (turn_of sh k) over.place
  unfolding end_of
  end_of-later k i j l m many over =
      cond-false (ltb i j) (at_older (turn_of sh (j - 2)) ((stage_after sh (j - 2)).place i)) (at_new (turn_of sh (i - 2)) ((stage_after sh (i - 2)).place j)) (le-ltb i j (omega arith))
      ∙ (ap (λ k. at_new (turn_of sh k) ((stage_after sh k).place j)) (step_of k j i over) ∙ ap (at_new (turn_of sh k)) (place_of_over k j i m many over))

  end : ℕ → ℕ → End
  end u v = end_of (get_or ranks u 0) (get_or ranks v 0)

  many_at : 3 ≤ length at
  many_at = let c = order.canonical.count in let e = length-closed lists s d p t h in let large = h.large in omega arith

  ends : AreEndsOf lists s d p t at steps end
  unfolding end
  ends i j l m has off =
      let at_places : IsEndAt sh (length at - 2) i j (end_of i j) = elim (cases_order i j) [
        | inl same ↦ absurd (h.near.simple.no_loop (name i) (name j) has (ap name (sym same)))
        | inr (inl less) ↦ elim ((of_map.joined i j less m).0 has) [
          | inl base ↦ absurd (off (inr (inr (inr (inr (ap name base.1 ∙ order.canonical.built.second, ap name base.0 ∙ order.canonical.built.first))))))
          | inr (k, k_in, over) ↦ inl record { step = k; before = k_in; over = over; end_is = end_of-earlier k i j less k_in many_at over }
        ]
        | inr (inr more) ↦ elim ((of_map.joined j i more l).0 (h.near.simple.both_ways (name i) (name j) has)) [
          | inl base ↦ absurd (off (inl (inr (inr (inr (ap name base.1 ∙ order.canonical.built.second, ap name base.0 ∙ order.canonical.built.first))))))
          | inr (k, k_in, over) ↦ inr record { step = k; before = k_in; over = over; end_is = end_of-later k i j more k_in many_at over }
        ]
      ] in
      subst (IsEndAt sh (length at - 2) i j) (ap₂ end_of (sym (rank.of_place i l)) (sym (rank.of_place j m))) at_places

  module _ (fig : RectFigure) (drawn : AreBoxesAt (boxes sh (length at - 3)) lists ranks fig) where
    -- an edge off the frame, by the ranks of its vertices
    stands : (u v : ℕ) → HasDart lists u v → ¬ IsFrameEdge s d p t u v → IsEndAt sh (suc (length at - 3)) (get_or ranks u 0) (get_or ranks v 0) (end u v)
    stands u v has off =
        let qu = at_rank lists s d p t at ranks steps end h order rank run ends u has.0 in
        let qv = at_rank lists s d p t at ranks steps end h order rank run ends v (h.near.simple.both_ways u v has).0 in
        let i : ℕ = get_or ranks u 0 in
        let j : ℕ = get_or ranks v 0 in
        let next : length at - 2 ≡ suc (length at - 3) = omega (arith, (size lists s d p t at ranks steps end h order rank run ends).1) in
        let has' = subst (λ w. HasDart lists w (name j)) (sym qu.1) (subst (HasDart lists u) (sym qv.1) has) in
        let off' = subst (λ w. ¬ IsFrameEdge s d p t w (name j)) (sym qu.1) (subst (λ w. ¬ IsFrameEdge s d p t u w) (sym qv.1) off) in
        subst (λ k. IsEndAt sh k i j (end u v)) next (subst (IsEndAt sh (length at - 2) i j) (ap₂ end qu.1 qv.1) (ends i j qu.0 qv.0 has' off'))

    -- it is not that of the first vertex and the last one
    off_top : (u v : ℕ) → HasDart lists u v → ¬ IsFrameEdge s d p t u v → ¬ ((get_or ranks u 0 ≡ 0) × (get_or ranks v 0 ≡ (length at - 3) + 2))
    off_top u v has off e =
        let qu = at_rank lists s d p t at ranks steps end h order rank run ends u has.0 in
        let qv = at_rank lists s d p t at ranks steps end h order rank run ends v (h.near.simple.both_ways u v has).0 in
        let last : get_or ranks v 0 ≡ length at - 1 = omega (arith, e.1, (size lists s d p t at ranks steps end h order rank run ends).1) in
        off (inl (inl (sym qu.1 ∙ (ap name e.0 ∙ order.canonical.built.first), sym qv.1 ∙ (ap name last ∙ top lists s d p t at ranks steps end h order rank run ends))))

    runs_meet : (u v : ℕ) → HasDart lists u v → ¬ IsFrameEdge s d p t u v → end u v ≡ run_out → right_of fig u ≡ left_of fig v
    runs_meet u v has off e =
        let back = h.near.simple.both_ways u v has in
        let at_run = subst (IsEndAt sh (suc (length at - 3)) (get_or ranks u 0) (get_or ranks v 0)) e (stands u v has off) in
        drawn.right u has.0 ∙ (ap pos ((edges_meet sh (length at - 3) (get_or ranks u 0) (get_or ranks v 0) of_map.run (off_top u v has off)).0 at_run) ∙ sym (drawn.left v back.0))

    rises_meet : (u v : ℕ) → HasDart lists u v → ¬ IsFrameEdge s d p t u v → end u v ≡ rise_out → high_of fig u ≡ low_of fig v
    rises_meet u v has off e =
        let back = h.near.simple.both_ways u v has in
        let at_rise = subst (IsEndAt sh (suc (length at - 3)) (get_or ranks u 0) (get_or ranks v 0)) e (stands u v has off) in
        drawn.high u has.0 ∙ (ap pos ((edges_meet sh (length at - 3) (get_or ranks u 0) (get_or ranks v 0) of_map.run (off_top u v has off)).1 at_rise) ∙ sym (drawn.low v back.0))

pub boxes_by_labelling : BoxesByLabelling
boxes_by_labelling lists s d p t at ranks steps fig h order rank run drawn = record {
  end = end lists s d p t at ranks steps h order rank run;
  labelling = labels_of_order lists s d p t at ranks steps (end lists s d p t at ranks steps h order rank run) h order rank run (ends lists s d p t at ranks steps h order rank run);
  runs = runs_meet lists s d p t at ranks steps h order rank run fig drawn;
  rises = rises_meet lists s d p t at ranks steps h order rank run fig drawn;
}
