-- The ranks of an order, and the rows of its run.
use Rattle.std.proofs.Common.{◌≡◌, ◌+◌, ◌-◌, ◌^◌, ◌<◌, ◌≤◌, ℕ, List, length, get_or, All, sym, ap, ◌∙◌, subst, inl, inr, arith}
use Rattle.std.proofs.lemmas.Bool.{cases_lt}
use Rattle.std.proofs.lemmas.List.{get_or_default, get_or_past}
use Rattle.std.proofs.lemmas.List.Elements.{Contains-get_or}
use Rattle.map_lists.specs.Lists.{Lists}
use Rattle.map_theory.specs.Maps.{Dart, HasDart, list_of}
use Rattle.plane_laws.specs.Triangulations.{IsTriangulation}
use Rattle.canon_order.specs.Orders.{IsCanonicalOrder, IsRankOf}
use Rattle.canon_order.proofs.Counters.{all_of_them}
use Rattle.contour_runs.specs.Runs.{Step, stage_after}
use Rattle.order_drawings.specs.OrderRuns.{IsOrderRun}
use Rattle.order_drawings.specs.Rows.{IsRow, AreAllRows, AreRanked, IsOrderRow, OrderRows}

-- the ranks are those of vertices
pub ranks_within : (lists : Lists) (base : Dart) (at ranks : List ℕ) → IsCanonicalOrder lists base at → IsRankOf ranks at → All (λ k. k < length ranks) ranks
ranks_within lists base at ranks order rank v d l =
    let n = rank.count in
    let m = order.count in
    let on = all_of_them at v (λ i d m. let o = order.vertices i d m in omega arith) order.built.once (omega arith) in
    let i = on.0 in
    let in_at = on.1 in
    let here : get_or at i 0 ≡ v = get_or_default at i 0 v in_at ∙ on.2 in
    let r : get_or ranks v d ≡ i = get_or_default ranks v d 0 l ∙ ap (λ u. get_or ranks u 0) (sym here) ∙ rank.of_place i in_at in
    omega arith

module _ (lists : Lists) (base : Dart) (at ranks : List ℕ) (triangulation : IsTriangulation lists) (order : IsCanonicalOrder lists base at) (rank : IsRankOf ranks at) where
  pub ranks_small : length lists < 4096 → (u : ℕ) → get_or ranks u 0 < 2 ^ 16
  ranks_small few u =
      let n = rank.count in
      let m = order.count in
      elim (cases_lt u (length ranks)) [
        | inl l ↦ let r = ranks_within lists base at ranks order rank u 0 l in omega arith
        | inr l ↦ omega (arith, get_or_past ranks u 0 l)
      ]

  pub entries_within : (v : ℕ) → v < length lists → All (λ u. u < length ranks) (list_of lists v)
  entries_within v l i d m =
      let n = rank.count in
      let e = order.count in
      let dart : HasDart lists v (get_or (list_of lists v) i d) = (l, Contains-get_or (list_of lists v) i d m) in
      let r = triangulation.simple.in_range v (get_or (list_of lists v) i d) dart in
      omega arith

  module _ (found : OrderRows) (steps : ℕ → Step) (run : IsOrderRun lists base at order.cycle steps) where
    pub row_of : (k : ℕ) → k + 2 < length at → IsOrderRow (list_of lists (get_or at (k + 2) 0)) ranks steps k
    row_of k l = found lists base at ranks triangulation order rank steps run k l

    pub list_some : (k : ℕ) → 2 ≤ k → k < length at → 0 < length (list_of lists (get_or at k 0))
    list_some k l m =
        let e : k - 2 + 2 ≡ k = omega arith in
        let r = row_of (k - 2) (omega arith) in
        let b = r.found.begin in
        subst (λ k. 0 < length (list_of lists (get_or at k 0))) e (omega arith)

    -- the rows found are those of the run
    pub AreAllRows-order : (rows : Lists) → length rows + 2 ≡ length at → AreRanked lists at ranks rows → AreAllRows steps rows
    AreAllRows-order rows n h =
        let count = order.count in
        let some = triangulation.some in
        let e : length at - 2 ≡ length rows = omega arith in
        record {
          rows_are = record {
            run = λ k l. run.run k (omega arith);
            row = λ k l.
                let r = row_of k (omega arith) in
                subst (λ xs. IsRow (stage_after steps k) (steps k) xs) (sym (h k r.start r.us l r.found)) r.row;
          };
          some = omega arith;
          end = subst (λ m. (stage_after steps m).width ≡ 3) e run.end;
        }
