use Rattle.std.proofs.Common.{◌≡◌, ℕ, length, subst, arith}
use Rattle.contour_runs.specs.FaceRuns.{Step}
use Rattle.convex_counts.specs.Counts.{face_counts}
use Rattle.convex_counts.specs.Turns.{well_turned}
use Rattle.convex_draw.specs.Points.{IsListedRun, ArePointsOf}
use Rattle.convex_draw.proofs.convex_points.point_calls.count_points_again.Goals as goal

pub run_points-requires-clause-run : goal.run_points-requires-clause-run
run_points-requires-clause-run c =
    let w = c.requires.run in
    let n = c.in_ok-resize.ensures.len in
    let n' = c.deref_mut.ensures.len in
    (w.0, w.1, subst (λ m. IsListedRun w.0 w.1 c.args.run.now.rows.now c.args.run.now.d.0 c.args.run.now.s.0 m c.args.run.now.faces) (omega arith) w.2)

pub returns : goal.returns
returns c =
    let n = c.in_ok-resize.ensures.len in
    let n' = c.deref_mut.ensures.len in
    let e : length c.deref_mut.result.now ≡ c.args.run.now.count = omega arith in
    subst (λ m. (steps : ℕ → Step) (at : ℕ → ℕ) → IsListedRun steps at c.args.run.now.rows.now c.args.run.now.d.0 c.args.run.now.s.0 m c.args.run.now.faces → ArePointsOf (face_counts (well_turned steps) (length c.args.run.now.rows.now.rows)) at m c.in_ok-points.points) e c.in_ok-points.ensures
