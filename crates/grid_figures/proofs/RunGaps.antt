-- The gaps of a run, row by row.
use Rattle.std.proofs.Common.{◌≡◌, ◌+◌, ◌<◌, ◌≤◌, ℕ, zero, suc, List, length, get_or, set, refl, ap, ◌∙◌, subst, arith}
use Rattle.std.proofs.lemmas.List.{get_or-set_same}
use Rattle.map_lists.specs.Lists.{Lists}
use Rattle.map_theory.specs.Maps.{list_of}
use Rattle.contour_runs.specs.Runs.{Step, base, stage_after, IsRun}
use Rattle.contour_runs.proofs.Places.{vertex_after-new}
use Rattle.contour_runs.proofs.Stages.{IsStage-run, IsRun-less, count-stage_after}
use Rattle.contour_runs.specs.Wood.{base_coordinates, coordinates, drawn}
use Rattle.contour_runs.specs.WoodPointsLaws.{IsCornered}
use Rattle.contour_runs.proofs.Steps.{IsFalling-run}
use Rattle.contour_runs.proofs.Corners.{cornered}
use Rattle.order_drawings.specs.Rows.{AreRows, AreAllRows}
use Rattle.grid_figures.specs.Gaps.{AreGaps, IsPut, AreLastGaps}

-- the step k puts the vertex k + 2 over the row k
pub IsPut-run : (steps : ℕ → Step) (rows : Lists) (k : ℕ) → AreRows steps rows → k < length rows → IsPut (stage_after steps k) (steps k) (coordinates steps k) (list_of rows k) (k + 2)
IsPut-run steps rows k h l =
    let run = IsRun-less steps k (length rows) (omega arith) h.run in
    record {
      stage = IsStage-run steps k run;
      falling = IsFalling-run steps k run;
      step = h.run k l;
      row = h.row k l;
      count = count-stage_after steps k;
    }

-- at first the drop from the first vertex to the second is 1, and all else is 0
pub AreGaps-base :
    (drops rises spans covers : List ℕ) → 1 < length drops → ((u : ℕ) → (get_or drops u 0 ≡ 0) × (get_or rises u 0 ≡ 0) × (get_or spans u 0 ≡ 0)) → AreGaps base base_coordinates (set drops 1 1) rises spans covers
AreGaps-base drops rises spans covers l zeros =
    let one = get_or-set_same drops 1 1 0 l in
    record {
      drop = λ i m. drop_base i (omega arith) (set drops 1 1) one;
      rise = λ i m. omega (arith, (zeros (suc i)).1);
      under = λ u m ne. absurd (ne refl);
      small = λ u. omega (arith, (zeros u).2);
    }
  where
    drop_base : (i : ℕ) → i ≡ 0 → (now : List ℕ) → get_or now 1 0 ≡ 1 → base_coordinates.one (base.vertex i) ≡ base_coordinates.one (base.vertex (suc i)) + get_or now (base.vertex (suc i)) 0
    drop_base i e now one = omega (arith, ap base_coordinates.one e, ap (λ i. base_coordinates.one (suc i)) e, ap (λ i. get_or now (suc i) 0) e, one)

-- the gaps of all rows
pub AreLastGaps-run :
    (steps : ℕ → Step) (rows : Lists) (drops rises spans covers : List ℕ) → AreAllRows steps rows → length rows + 2 ≡ length covers
    → AreGaps (stage_after steps (length rows)) (coordinates steps (length rows)) drops rises spans covers
    → AreLastGaps (stage_after steps (length rows)) (coordinates steps (length rows)) drops rises spans covers
AreLastGaps-run steps rows drops rises spans covers h n kept =
    let some = h.some in
    record {
      stage = IsStage-run steps (length rows) h.rows_are.run;
      falling = IsFalling-run steps (length rows) h.rows_are.run;
      kept = kept;
      count = count-stage_after steps (length rows) ∙ n;
      three = h.end;
      top = top_is (length rows) h.some h.rows_are.run h.end;
      corners = subst (IsCornered (drawn (coordinates steps (length rows)))) n
          (cornered steps (length rows) (length rows + 2) record { run = h.rows_are.run; count = refl; some = omega arith; end = h.end });
    }
  where
    -- the last step goes over all
    top_is : (m : ℕ) → 1 ≤ m → IsRun steps m → (stage_after steps m).width ≡ 3 → suc ((stage_after steps m).vertex 1) ≡ (stage_after steps m).count
    top_is zero l run w = absurd (omega (arith, l))
    top_is (suc m) l run w =
        let step = run m (omega arith) in
        let o = step.order in
        let i = step.within in
        ap suc (vertex_after-new (stage_after steps m) (steps m) 1 (omega (arith, w)))
