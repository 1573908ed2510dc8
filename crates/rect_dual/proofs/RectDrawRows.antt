-- All rows but the last one, in the run that ends a place earlier.
use Rattle.std.proofs.Common.{◌≡◌, ℕ, suc, ◌-◌, ◌<◌, ◌≤◌, List, [], length, take, sym, ap, subst, arith}
use Rattle.std.proofs.lemmas.List.{get_or-take, length-take-le}
use Rattle.map_lists.specs.Lists.{Lists}
use Rattle.map_theory.specs.Maps.{list_of}
use Rattle.contour_runs.specs.Runs.{Step, stage_after, IsRun}
use Rattle.contour_runs.proofs.Stages.{IsRun-less}
use Rattle.order_drawings.specs.Rows.{IsRow, AreRows, AreAllRows, AreRowsOf}
use Rattle.rect_orders.specs.Runs.{shortened}
use Rattle.rect_orders.proofs.Shortened.{short-old, stage-same, short_run}
use Rattle.rect_dual.specs.RectDrawTables.{AreLowerRowsOf}

module _ (steps : ℕ → Step) (rows : Lists) (h : AreAllRows steps rows) (n : ℕ) (size : length rows ≡ suc n) (many : 2 ≤ n) where
  whole : IsRun steps (suc n)
  whole = subst (IsRun steps) size h.rows_are.run

  end : (stage_after steps (suc n)).width ≡ 3
  end = subst (λ k. (stage_after steps k).width ≡ 3) size h.end

  front : length (take n rows) ≡ n
  front = length-take-le n rows (omega arith)

  pub AreRows-lower : AreRows (shortened steps n) (take n rows)
  AreRows-lower = record {
    run = subst (IsRun (shortened steps n)) (sym front) (IsRun-less (shortened steps n) n (suc n) (omega arith) (short_run steps n whole many end));
    row = λ k l.
        let m : k < n = omega (arith, l, front) in
        subst (λ g. IsRow g (shortened steps n k) (list_of (take n rows) k)) (sym (stage-same steps n whole many end k (omega arith)))
        (subst (λ s. IsRow (stage_after steps k) s (list_of (take n rows) k)) (sym (short-old steps n whole many end k m))
        (subst (IsRow (stage_after steps k) (steps k)) (sym (get_or-take n rows k [] m)) (h.rows_are.row k (omega (arith, m, size)))));
  }

-- the same of an order
pub AreLowerRowsOf-taken : (lists : Lists) (at : List ℕ) (rows lower : Lists) (k : ℕ) → AreRowsOf lists at rows → 5 ≤ length at → k ≡ length rows - 1 → lower ≡ take k rows → AreLowerRowsOf lists at lower
AreLowerRowsOf-taken lists at rows lower k h many e is =
    let n = h.count in
    let size : length rows ≡ suc k = omega arith in
    let same : k ≡ length at - 3 = omega arith in
    let len = length-take-le k rows (omega arith) in
    record {
      count = omega (arith, ap length is, len, n, many, e);
      of_run = λ base order steps run.
          subst (λ z. AreRows (shortened steps z) lower) same (subst (AreRows (shortened steps k)) (sym is) (AreRows-lower steps rows (h.of_run base order steps run) k size (omega arith)));
    }
