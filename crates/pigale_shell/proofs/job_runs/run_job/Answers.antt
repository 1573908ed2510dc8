use Rattle.pigale_shell.specs.declared.map_jobs.MapJob.TheVariants.{Count, Shift, Schnyder, Bars, Convex, Rect}
use Rattle.pigale_shell.proofs.OutcomeLemmas.{Outcome-run, Outcome-maps}
use Rattle.pigale_shell.proofs.job_runs.run_job.Goals as goal

pub returns-in-Maps-Count-default-clause-outcome : goal.returns-in-Maps-Count-default-clause-outcome
returns-in-Maps-Count-default-clause-outcome g c =
    let arm = c.in-Maps-Count-default in
    rw c.status.ensures (Outcome-maps c.args.job arm.field-0 Count arm.form _ _ _ _ _ _ _ _ c.run_planar.result arm.is (rw arm.is at arm.field-0-is) c.run_planar.ensures.outcome)

pub returns-in-Maps-Shift-default-clause-outcome : goal.returns-in-Maps-Shift-default-clause-outcome
returns-in-Maps-Shift-default-clause-outcome g c =
    let arm = c.in-Maps-Shift-default in
    rw c.status-in-Maps-Shift-default.ensures (Outcome-maps c.args.job arm.field-0 Shift arm.form _ _ _ _ _ _ _ _ c.run_planar-in-Maps-Shift-default.result arm.is (rw arm.is at arm.field-0-is) c.run_planar-in-Maps-Shift-default.ensures.outcome)

pub returns-in-Maps-Schnyder-default-clause-outcome : goal.returns-in-Maps-Schnyder-default-clause-outcome
returns-in-Maps-Schnyder-default-clause-outcome g c =
    let arm = c.in-Maps-Schnyder-default in
    rw c.status-in-Maps-Schnyder-default.ensures (Outcome-maps c.args.job arm.field-0 Schnyder arm.form _ _ _ _ _ _ _ _ c.run_planar-in-Maps-Schnyder-default.result arm.is (rw arm.is at arm.field-0-is) c.run_planar-in-Maps-Schnyder-default.ensures.outcome)

pub returns-in-Maps-Bars-default-clause-outcome : goal.returns-in-Maps-Bars-default-clause-outcome
returns-in-Maps-Bars-default-clause-outcome g c =
    let arm = c.in-Maps-Bars-default in
    rw c.status-in-Maps-Bars-default.ensures (Outcome-maps c.args.job arm.field-0 Bars arm.form _ _ _ _ _ _ _ _ c.run_planar-in-Maps-Bars-default.result arm.is (rw arm.is at arm.field-0-is) c.run_planar-in-Maps-Bars-default.ensures.outcome)

pub returns-in-Maps-Convex-default-clause-outcome : goal.returns-in-Maps-Convex-default-clause-outcome
returns-in-Maps-Convex-default-clause-outcome g c =
    let arm = c.in-Maps-Convex-default in
    rw c.status-in-Maps-Convex-default.ensures (Outcome-maps c.args.job arm.field-0 Convex arm.form _ _ _ _ _ _ _ _ c.run_planar-in-Maps-Convex-default.result arm.is (rw arm.is at arm.field-0-is) c.run_planar-in-Maps-Convex-default.ensures.outcome)

pub returns-in-Maps-Rect-default-clause-outcome : goal.returns-in-Maps-Rect-default-clause-outcome
returns-in-Maps-Rect-default-clause-outcome g c =
    let arm = c.in-Maps-Rect-default in
    rw c.status-in-Maps-Rect-default.ensures (Outcome-maps c.args.job arm.field-0 Rect arm.form _ _ _ _ _ _ _ _ c.run_planar-in-Maps-Rect-default.result arm.is (rw arm.is at arm.field-0-is) c.run_planar-in-Maps-Rect-default.ensures.outcome)

pub returns-in-Graphs-clause-outcome : goal.returns-in-Graphs-clause-outcome
returns-in-Graphs-clause-outcome g c =
    rw c.status-in-Graphs.ensures (Outcome-run c.args.job _ _ _ _ _ _ _ _ _ c.run_graphs.result c.in-Graphs.is c.run_graphs.ensures.outcome)

pub returns-in-Figures-clause-outcome : goal.returns-in-Figures-clause-outcome
returns-in-Figures-clause-outcome g c =
    rw c.status-in-Figures.ensures (Outcome-run c.args.job _ _ _ _ _ _ _ _ _ c.run_records.result c.in-Figures.is c.run_records.ensures.outcome)

pub returns-in-Made-clause-outcome : goal.returns-in-Made-clause-outcome
returns-in-Made-clause-outcome g c =
    rw c.status-in-Made.ensures (Outcome-run c.args.job _ _ _ _ _ _ _ _ _ c.run_made.result c.in-Made.is (c.run_made.ensures.outcome _))
