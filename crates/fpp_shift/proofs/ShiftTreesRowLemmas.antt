-- Where the row of a vertex of a canonical order begins and ends.
use Rattle.std.proofs.Common.{◌≡◌, ◌⊎◌, ◌+◌, ◌-◌, ◌≤◌, ℕ, suc, List, length, get_or, sym, ap, ◌∙◌, subst, inl, inr, arith}
use Rattle.std.proofs.lemmas.Bool.{cases_lt}
use Rattle.map_lists.specs.Lists.{Lists}
use Rattle.map_theory.specs.Maps.{follows}
use Rattle.canon_order.specs.Laws.{RowEnds}
use Rattle.contour_runs.specs.Runs.{Step, stage_after}
use Rattle.order_drawings.proofs.OrderRunsOrderRows.{IsRowOf, HasEnds, row_of, ends_of, one_last, begins_first}
use Rattle.fpp_shift.specs.ShiftTreesRows.{BeginsRow, EndsRow, HasRow, OrderHasRows}

module _ (lists : Lists) (at ranks : List ℕ) (steps : ℕ → Step) (k v : ℕ) (ws : List ℕ) (row : IsRowOf lists at ranks steps k v ws) (ended : HasEnds lists ranks k v ws) where
  abbrev p : ℕ
  p = get_or ws 0 0

  abbrev q : ℕ
  q = get_or ws (length ws - 1) 0

  only_begin : (u : ℕ) → BeginsRow lists ranks (k + 2) v u → u ≡ p
  only_begin u b =
      let on = row.on_row u b.dart b.earlier in
      let first = begins_first lists at ranks steps k v ws row on.0 on.1 (subst (λ u. (get_or ranks u 0 ≡ 0) ⊎ (k + 2 ≤ get_or ranks (follows lists v u) 0)) (sym on.2) b.begins) in
      sym on.2 ∙ ap (λ c. get_or ws c 0) first

  only_end : (u : ℕ) → EndsRow lists ranks (k + 2) v u → u ≡ q
  only_end u b =
      let on = row.on_row u b.dart b.earlier in
      let c = on.0 in
      elim (cases_lt (suc c) (length ws)) [
        | inr o ↦ (let d : c ≡ length ws - 1 = omega arith in sym on.2 ∙ ap (λ c. get_or ws c 0) d)
        | inl o ↦ elim b.ends [
          | inl z ↦ absurd (omega (arith, one_last lists at ranks steps k v ws row c on.1 (ap (λ u. get_or ranks u 0) on.2 ∙ z)))
          | inr h ↦
              absurd (omega (arith, h (get_or ws (suc c) 0) (row.dart (suc c) o) (row.turns c o ∙ on.2)))
        ]
      ]

  pub has_row : HasRow lists ranks (k + 2) v (get_or at ((stage_after steps k).vertex (steps k).first) 0) (get_or at ((stage_after steps k).vertex (steps k).last) 0)
  has_row =
      let last : ℕ = length ws - 1 in
      let first_place : (steps k).first ≡ (steps k).first + 0 = omega arith in
      let last_place : (steps k).last ≡ (steps k).first + last = omega arith in
      let p_is = ap (λ i. get_or at ((stage_after steps k).vertex i) 0) first_place ∙ row.named 0 (omega arith) in
      let q_is = ap (λ i. get_or at ((stage_after steps k).vertex i) 0) last_place ∙ row.named last (omega arith) in
      record {
        begin = subst (BeginsRow lists ranks (k + 2) v) (sym p_is) (record { dart = row.dart 0 (omega arith); earlier = row.earlier 0 (omega arith); begins = ended.begins });
        only_begin = λ u b. only_begin u b ∙ sym p_is;
        end = subst (EndsRow lists ranks (k + 2) v) (sym q_is) (record { dart = row.dart last (omega arith); earlier = row.earlier last (omega arith); ends = ended.ends last (omega arith) });
        only_end = λ u b. only_end u b ∙ sym q_is;
      }

-- so it is for each vertex from the third on of each order
pub order_has_rows : RowEnds → OrderHasRows
order_has_rows law = λ lists base at ranks triangulation order rank steps run k l.
    has_row lists at ranks steps k (get_or at (k + 2) 0) _ (row_of lists base at ranks triangulation order rank steps run k l) (ends_of lists base at ranks triangulation order rank steps run k l law)
