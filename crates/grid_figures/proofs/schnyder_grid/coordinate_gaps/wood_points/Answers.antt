use Rattle.std.proofs.Common.{◌≡◌, ◌+◌, ◌<◌, ℕ, List, suc, length, All, sym, subst, arith}
use Rattle.std.proofs.lemmas.Result.{IfOk-weaker}
use Rattle.std.proofs.lemmas.List.{length-set}
use Rattle.map_lists.specs.Lists.{Lists}
use Rattle.contour_runs.specs.Runs.{Step, stage_after}
use Rattle.contour_runs.proofs.Stages.{count-stage_after}
use Rattle.contour_runs.specs.Wood.{coordinates}
use Rattle.order_drawings.specs.Rows.{AreAllRows}
use Rattle.order_drawings.specs.Points.{ArePointsAt}
use Rattle.grid_figures.specs.Gaps.{AreGaps, AreLastGaps, IsPut}
use Rattle.grid_figures.specs.Points.{ArePoints}
use Rattle.grid_figures.proofs.DrawLemmas.{ArePoints-at, small_points}
use Rattle.grid_figures.proofs.RunGaps.{IsPut-run, AreGaps-base, AreLastGaps-run}
use Rattle.grid_figures.proofs.schnyder_grid.coordinate_gaps.wood_points.Goals as goal

pub loop-k-init : goal.loop-k-init
loop-k-init c = λ steps h.
    let n = c.requires.rows in
    let drops = c.requires.tables.drops_of_all in
    AreGaps-base c.args.drops.now c.args.rises.now c.args.spans.now c.args.covers.now (omega arith) c.requires.zeros

pub put_over-requires-clause-put : goal.put_over-requires-clause-put
put_over-requires-clause-put c =
    let steps = c.requires.run.0 in
    let rows = c.requires.run.1.rows_are in
    let k : ℕ = c.loop-k.k in
    let test = c.loop-k-test.true in
    let len = c.len-k-end.ensures in
    let put = IsPut-run steps c.args.rows.now k rows (omega arith) in
    (stage_after steps k, steps k, coordinates steps k, subst (λ row. IsPut (stage_after steps k) (steps k) (coordinates steps k) row (k + 2)) (sym c.list.ensures) put, c.loop-k.invariant steps rows)

pub loop-k-preserved : goal.loop-k-preserved
loop-k-preserved c = λ steps h.
    let k : ℕ = c.loop-k.k in
    let test = c.loop-k-test.true in
    let len = c.len-k-end.ensures in
    let put = IsPut-run steps c.args.rows.now k h (omega arith) in
    let e : suc k ≡ k + 1 = omega arith in
    subst (λ j. AreGaps (stage_after steps j) (coordinates steps j) c.put_over.new.drops c.put_over.new.rises c.put_over.new.spans c.put_over.new.covers) e
    (c.put_over.ensures (stage_after steps k) (steps k) (coordinates steps k) (subst (λ row. IsPut (stage_after steps k) (steps k) (coordinates steps k) row (k + 2)) (sym c.list.ensures) put) (c.loop-k.invariant steps h))

-- the gaps at the end of the loop are those of all rows
at_end : (steps : ℕ → Step) (rows : Lists) (k n : ℕ) (drops rises spans covers : List ℕ) → AreAllRows steps rows → k ≡ length rows → length rows + 2 ≡ n → length covers ≡ n
    → AreGaps (stage_after steps k) (coordinates steps k) drops rises spans covers → AreLastGaps (stage_after steps (length rows)) (coordinates steps (length rows)) drops rises spans covers
at_end steps rows k n drops rises spans covers h e rows_are covers_are kept =
    AreLastGaps-run steps rows drops rises spans covers h (omega arith) (subst (λ j. AreGaps (stage_after steps j) (coordinates steps j) drops rises spans covers) e kept)

pub add_up-requires-clause-last : goal.add_up-requires-clause-last
add_up-requires-clause-last c =
    let (steps, run) = c.requires.run in
    let m : ℕ = length c.args.rows.now in
    let l = c.loop-k in
    let e : l.k ≡ m = omega (arith, c.loop-k-test.false, l.auto.k-end, c.len-k-end.ensures) in
    (stage_after steps m, coordinates steps m, at_end steps c.args.rows.now l.k _ l.drops l.rises l.spans l.covers run e c.requires.rows (omega (arith, l.auto.covers, c.requires.tables.covers_of_all)) (l.invariant steps run.rows_are))

pub points_at-requires-clause-small : goal.points_at-requires-clause-small
points_at-requires-clause-small c = λ k below.
    let (steps, run) = c.requires.run in
    let m : ℕ = length c.args.rows.now in
    let n = c.requires.rows in
    let few = c.requires.tables.few in
    let count = count-stage_after steps m in
    let l = c.loop-k in
    let long : length c.add_up.new.drops ≡ length c.args.ranks.now = omega (arith, c.add_up.auto.drops, l.auto.drops, length-set c.args.drops.now 1 1, c.requires.tables.drops_of_all) in
    let e : l.k ≡ m = omega (arith, c.loop-k-test.false, l.auto.k-end, c.len-k-end.ensures) in
    let last = at_end steps c.args.rows.now l.k _ l.drops l.rises l.spans l.covers run e n (omega (arith, l.auto.covers, c.requires.tables.covers_of_all)) (l.invariant steps run.rows_are) in
    let at = c.add_up.ensures (stage_after steps m) (coordinates steps m) last k (omega arith) in
    let small = small_points steps c.args.rows.now k run (omega arith) (omega arith) in
    (omega (arith, at.0, small.0), omega (arith, at.1, small.1))

pub returns : goal.returns
returns c =
    let new = c.add_up.new in
    let rows = c.args.rows.now in
    let ranks = c.args.ranks.now in
    let m : ℕ = length rows in
    let n = c.requires.rows in
    let l = c.loop-k in
    let long : length ranks ≡ length new.drops = omega (arith, c.add_up.auto.drops, l.auto.drops, length-set c.args.drops.now 1 1, c.requires.tables.drops_of_all) in
    let e : l.k ≡ m = omega (arith, c.loop-k-test.false, l.auto.k-end, c.len-k-end.ensures) in
    IfOk-weaker c.points_at.result (λ points. ArePointsAt new.drops new.rises ranks points) (λ points. (steps : ℕ → Step) → AreAllRows steps rows → ArePoints steps m ranks points)
    (λ points h steps run.
    let count = count-stage_after steps m in
    let last = at_end steps rows l.k _ l.drops l.rises l.spans l.covers run e n (omega (arith, l.auto.covers, c.requires.tables.covers_of_all)) (l.invariant steps run.rows_are) in
    ArePoints-at steps m new.drops new.rises ranks points h (subst (λ n. All (λ k. k < n) ranks) long c.requires.ranks) (λ k below. c.add_up.ensures (stage_after steps m) (coordinates steps m) last k (omega arith))) c.points_at.ensures
