-- The labelling of an order: both ends, round inner vertices, and at the frame.
use Rattle.std.proofs.Common.{◌≡◌, ◌≢◌, ℕ, suc, ◌+◌, ◌-◌, ◌<◌, ◌≤◌, List, length, map, get_or, sym, ap, subst, ◌∙◌, inl, inr, arith}
use Rattle.map_lists.specs.Lists.{Lists}
use Rattle.map_theory.specs.Maps.{HasDart, list_of}
use Rattle.contour_runs.specs.Runs.{Step}
use Rattle.rect_runs.specs.Corners.{End, run_in, rise_out, run_out, rise_in}
use Rattle.canon_order.specs.Orders.{IsRankOf}
use Rattle.order_drawings.specs.OrderRuns.{IsOrderRun}
use Rattle.order_drawings.proofs.OrderRunsOrderRows.{row_of}
use Rattle.rect_orders.specs.Maps.{IsRectMap, closed}
use Rattle.rect_orders.specs.Orders.{IsRectOrder}
use Rattle.rect_orders.specs.Runs.{shortened}
use Rattle.rect_orders.proofs.Closed.{triangulation, s_not_d, s_not_p, s_not_t, d_not_p, d_not_t, p_not_t}
use Rattle.rect_runs.specs.Ends.{IsEndAt, AreFrameEnds, other_end}
use Rattle.rect_runs.specs.Rounds.{IsOnceRound}
use Rattle.rect_runs.proofs.RectEndsEnds.{one_end, ends_agree}
use Rattle.rect_runs.proofs.RectEndsFrame.{frame_ends}
use Rattle.rect_orders.specs.Labellings.{IsFrameEdge, AreEndsOf, LabelsOfOrder}
use Rattle.rect_orders.proofs.Around.{N, size, rect, short_run, top, at_rank, around_at}

module _ (lists : Lists) (s d p t : ℕ) (at ranks : List ℕ) (steps : ℕ → Step) (end : ℕ → ℕ → End) (h : IsRectMap lists s d p t) (order : IsRectOrder lists s d p t at) (rank : IsRankOf ranks at) (run : IsOrderRun (closed lists s d p t) (t, s) at order.canonical.cycle steps) (ends : AreEndsOf lists s d p t at steps end) where
  abbrev at' : ℕ → ℕ
  at' i = get_or at i 0

  abbrev sh : ℕ → Step
  sh = shortened steps (length at - 3)

  abbrev n : ℕ
  n = length at - 3

  here : (length at ≡ length lists) × (5 ≤ length at)
  here = size lists s d p t at ranks steps end h order rank run ends

  rank_of : (u : ℕ) → u < length lists → (get_or ranks u 0 < length at) × (at' (get_or ranks u 0) ≡ u)
  rank_of u l = at_rank lists s d p t at ranks steps end h order rank run ends u l

  next : N lists s d p t at ranks steps end h order rank run ends ≡ suc n
  next = let z = here in let m = z.1 in omega arith

  frame : AreFrameEnds sh n
  frame = frame_ends sh n (rect lists s d p t at ranks steps end h order rank run ends)

  -- an edge off the frame, by places
  stands : (i : ℕ) (u : ℕ) → i < length at → HasDart lists (at' i) u → ¬ IsFrameEdge s d p t (at' i) u → IsEndAt sh (suc n) i (get_or ranks u 0) (end (at' i) u)
  stands i u l a off =
      let q = rank_of u (h.near.simple.in_range (at' i) u a) in
      subst (λ k. IsEndAt sh k i (get_or ranks u 0) (end (at' i) u)) next
      (subst (λ w. IsEndAt sh (length at - 2) i (get_or ranks u 0) (end (at' i) w)) q.1 (ends i (get_or ranks u 0) l q.0 (subst (HasDart lists (at' i)) (sym q.1) a) (subst (λ w. ¬ IsFrameEdge s d p t (at' i) w) (sym q.1) off)))

  agree : (u v : ℕ) → HasDart lists u v → ¬ IsFrameEdge s d p t u v → end v u ≡ other_end (end u v)
  agree u v a off =
      let qu = rank_of u a.0 in
      let back = h.near.simple.both_ways u v a in
      let qv = rank_of v back.0 in
      let i : ℕ = get_or ranks u 0 in
      let j : ℕ = get_or ranks v 0 in
      let one = ends i j qu.0 qv.0 (subst (λ w. HasDart lists w (at' j)) (sym qu.1) (subst (HasDart lists u) (sym qv.1) a)) (subst (λ w. ¬ IsFrameEdge s d p t w (at' j)) (sym qu.1) (subst (λ w. ¬ IsFrameEdge s d p t u w) (sym qv.1) off)) in
      let turned : ¬ IsFrameEdge s d p t v u = λ f. off (elim f [ inl x ↦ inr x | inr x ↦ inl x ]) in
      let two = ends j i qv.0 qu.0 (subst (λ w. HasDart lists w (at' i)) (sym qv.1) (subst (HasDart lists v) (sym qu.1) back)) (subst (λ w. ¬ IsFrameEdge s d p t w (at' i)) (sym qv.1) (subst (λ w. ¬ IsFrameEdge s d p t v w) (sym qu.1) turned)) in
      let same = one_end sh (length at - 2) j i (end (at' j) (at' i)) (other_end (end (at' i) (at' j))) (short_run lists s d p t at ranks steps end h order rank run ends) two (ends_agree sh (length at - 2) i j (end (at' i) (at' j)) one) in
      ap (λ w. end w u) (sym qv.1) ∙ (ap (end (at' j)) (sym qu.1) ∙ (same ∙ (ap (λ w. other_end (end w (at' j))) qu.1 ∙ ap (λ w. other_end (end u w)) qv.1)))

  around : (v : ℕ) → v < length lists → v ≢ s → v ≢ d → v ≢ p → v ≢ t → IsOnceRound (map (end v) (list_of lists v))
  around v l ns nd np nt =
      let q = rank_of v l in
      let r : ℕ = get_or ranks v 0 in
      let n0 : r ≢ 0 = λ e. ns (sym q.1 ∙ (ap at' e ∙ order.canonical.built.first)) in
      let n1 : r ≢ 1 = λ e. nt (sym q.1 ∙ (ap at' e ∙ order.canonical.built.second)) in
      let n2 : r ≢ length at - 2 = λ e. np (sym q.1 ∙ (ap at' e ∙ order.right)) in
      let n3 : r ≢ length at - 1 = λ e. nd (sym q.1 ∙ (ap at' e ∙ top lists s d p t at ranks steps end h order rank run ends)) in
      let e : r - 2 + 2 ≡ r = omega arith in
      let hi : r - 2 + 2 + 2 < length at = omega arith in
      subst (λ w. IsOnceRound (map (end w) (list_of lists w))) (ap at' e ∙ q.1)
      (around_at lists s d p t at ranks steps end h order rank run ends (r - 2) hi _ (row_of (closed lists s d p t) (t, s) at ranks (triangulation lists s d p t h) order.canonical rank steps run (r - 2) (omega arith)))

  -- who is not s, and so on
  off_left : (u : ℕ) → u ≢ d → u ≢ t → ¬ IsFrameEdge s d p t s u
  off_left u nd nt f = elim f [
    | inl a ↦ elim a [ inl q ↦ nd q.1 | inr (inl q) ↦ s_not_d lists s d p t h q.0 | inr (inr (inl q)) ↦ s_not_p lists s d p t h q.0 | inr (inr (inr q)) ↦ s_not_t lists s d p t h q.0 ]
    | inr a ↦ elim a [ inl q ↦ s_not_d lists s d p t h q.1 | inr (inl q) ↦ s_not_p lists s d p t h q.1 | inr (inr (inl q)) ↦ s_not_t lists s d p t h q.1 | inr (inr (inr q)) ↦ nt q.0 ]
  ]

  off_top : (u : ℕ) → u ≢ s → u ≢ p → ¬ IsFrameEdge s d p t d u
  off_top u ns np f = elim f [
    | inl a ↦ elim a [ inl q ↦ s_not_d lists s d p t h (sym q.0) | inr (inl q) ↦ np q.1 | inr (inr (inl q)) ↦ d_not_p lists s d p t h q.0 | inr (inr (inr q)) ↦ d_not_t lists s d p t h q.0 ]
    | inr a ↦ elim a [ inl q ↦ ns q.0 | inr (inl q) ↦ d_not_p lists s d p t h q.1 | inr (inr (inl q)) ↦ d_not_t lists s d p t h q.1 | inr (inr (inr q)) ↦ s_not_d lists s d p t h (sym q.1) ]
  ]

  off_right : (u : ℕ) → u ≢ d → u ≢ t → ¬ IsFrameEdge s d p t p u
  off_right u nd nt f = elim f [
    | inl a ↦ elim a [ inl q ↦ s_not_p lists s d p t h (sym q.0) | inr (inl q) ↦ d_not_p lists s d p t h (sym q.0) | inr (inr (inl q)) ↦ nt q.1 | inr (inr (inr q)) ↦ p_not_t lists s d p t h q.0 ]
    | inr a ↦ elim a [ inl q ↦ d_not_p lists s d p t h (sym q.1) | inr (inl q) ↦ nd q.0 | inr (inr (inl q)) ↦ p_not_t lists s d p t h q.1 | inr (inr (inr q)) ↦ s_not_p lists s d p t h (sym q.1) ]
  ]

  off_bottom : (u : ℕ) → u ≢ p → u ≢ s → ¬ IsFrameEdge s d p t t u
  off_bottom u np ns f = elim f [
    | inl a ↦ elim a [ inl q ↦ s_not_t lists s d p t h (sym q.0) | inr (inl q) ↦ d_not_t lists s d p t h (sym q.0) | inr (inr (inl q)) ↦ p_not_t lists s d p t h (sym q.0) | inr (inr (inr q)) ↦ ns q.1 ]
    | inr a ↦ elim a [ inl q ↦ d_not_t lists s d p t h (sym q.1) | inr (inl q) ↦ p_not_t lists s d p t h (sym q.1) | inr (inr (inl q)) ↦ np q.0 | inr (inr (inr q)) ↦ s_not_t lists s d p t h (sym q.1) ]
  ]

  -- by the places of the four
  left : (u : ℕ) → HasDart lists s u → u ≢ d → u ≢ t → end s u ≡ run_out
  left u a nd nt =
      let e = order.canonical.built.first in
      ap (λ w. end w u) (sym e) ∙ frame.first (get_or ranks u 0) (end (at' 0) u) (stands 0 u (omega (arith, here)) (subst (λ w. HasDart lists w u) (sym e) a) (subst (λ w. ¬ IsFrameEdge s d p t w u) (sym e) (off_left u nd nt)))

  bottom : (u : ℕ) → HasDart lists t u → u ≢ p → u ≢ s → end t u ≡ rise_out
  bottom u a np ns =
      let e = order.canonical.built.second in
      ap (λ w. end w u) (sym e) ∙ frame.second (get_or ranks u 0) (end (at' 1) u) (stands 1 u (omega (arith, here)) (subst (λ w. HasDart lists w u) (sym e) a) (subst (λ w. ¬ IsFrameEdge s d p t w u) (sym e) (off_bottom u np ns)))

  right : (u : ℕ) → HasDart lists p u → u ≢ d → u ≢ t → end p u ≡ run_in
  right u a nd nt =
      let i : length at - 2 ≡ n + 1 = omega (arith, here) in
      let e : at' (n + 1) ≡ p = ap at' (sym i) ∙ order.right in
      let q = rank_of u (h.near.simple.in_range p u a) in
      let j : length at - 1 ≡ n + 2 = omega arith in
      ap (λ w. end w u) (sym e)
      ∙ frame.right (get_or ranks u 0) (end (at' (n + 1)) u)
      (λ x. nt (sym q.1 ∙ (ap at' x ∙ order.canonical.built.second)))
      (λ x. nd (sym q.1 ∙ (ap at' (x ∙ sym j) ∙ top lists s d p t at ranks steps end h order rank run ends)))
      (stands (n + 1) u (omega arith) (subst (λ w. HasDart lists w u) (sym e) a) (subst (λ w. ¬ IsFrameEdge s d p t w u) (sym e) (off_right u nd nt)))

  top_is : (u : ℕ) → HasDart lists d u → u ≢ s → u ≢ p → end d u ≡ rise_in
  top_is u a ns np =
      let j : length at - 1 ≡ n + 2 = omega (arith, here) in
      let e : at' (n + 2) ≡ d = ap at' (sym j) ∙ top lists s d p t at ranks steps end h order rank run ends in
      ap (λ w. end w u) (sym e)
      ∙ frame.top (get_or ranks u 0) (end (at' (n + 2)) u)
      (λ x. ns (sym (rank_of u (h.near.simple.in_range d u a)).1 ∙ (ap at' x ∙ order.canonical.built.first)))
      (stands (n + 2) u (omega arith) (subst (λ w. HasDart lists w u) (sym e) a) (subst (λ w. ¬ IsFrameEdge s d p t w u) (sym e) (off_top u ns np)))

pub labels_of_order : LabelsOfOrder
labels_of_order lists s d p t at ranks steps end h order rank run ends = record {
  agree = agree lists s d p t at ranks steps end h order rank run ends;
  around = around lists s d p t at ranks steps end h order rank run ends;
  left = left lists s d p t at ranks steps end h order rank run ends;
  top = top_is lists s d p t at ranks steps end h order rank run ends;
  right = right lists s d p t at ranks steps end h order rank run ends;
  bottom = bottom lists s d p t at ranks steps end h order rank run ends;
}
