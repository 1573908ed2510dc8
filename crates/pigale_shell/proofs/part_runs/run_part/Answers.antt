use Rattle.pigale_shell.specs.declared.map_jobs.MapJob.TheVariants.{Count, Shift, Schnyder, Bars, Convex, Rect}
use Rattle.pigale_shell.proofs.OutcomeLemmas.{PartOutcome-run, PartOutcome-maps}
use Rattle.pigale_shell.proofs.part_runs.run_part.Goals as goal

pub returns-in-Maps-Count-default-clause-outcome : goal.returns-in-Maps-Count-default-clause-outcome
returns-in-Maps-Count-default-clause-outcome g c =
    let arm = c.in-Maps-Count-default in
    let ran = c.run_planar_part.ensures in
    PartOutcome-maps c.args.job arm.field-0 Count arm.form c.args.part _ _ _ _ _ arm.is (rw arm.is at arm.field-0-is) (ran.outcome, ran.counts)

pub returns-in-Maps-Shift-default-clause-outcome : goal.returns-in-Maps-Shift-default-clause-outcome
returns-in-Maps-Shift-default-clause-outcome g c =
    let arm = c.in-Maps-Shift-default in
    let ran = c.run_planar_part-in-Maps-Shift-default.ensures in
    PartOutcome-maps c.args.job arm.field-0 Shift arm.form c.args.part _ _ _ _ _ arm.is (rw arm.is at arm.field-0-is) (ran.outcome, ran.counts)

pub returns-in-Maps-Schnyder-default-clause-outcome : goal.returns-in-Maps-Schnyder-default-clause-outcome
returns-in-Maps-Schnyder-default-clause-outcome g c =
    let arm = c.in-Maps-Schnyder-default in
    let ran = c.run_planar_part-in-Maps-Schnyder-default.ensures in
    PartOutcome-maps c.args.job arm.field-0 Schnyder arm.form c.args.part _ _ _ _ _ arm.is (rw arm.is at arm.field-0-is) (ran.outcome, ran.counts)

pub returns-in-Maps-Bars-default-clause-outcome : goal.returns-in-Maps-Bars-default-clause-outcome
returns-in-Maps-Bars-default-clause-outcome g c =
    let arm = c.in-Maps-Bars-default in
    let ran = c.run_planar_part-in-Maps-Bars-default.ensures in
    PartOutcome-maps c.args.job arm.field-0 Bars arm.form c.args.part _ _ _ _ _ arm.is (rw arm.is at arm.field-0-is) (ran.outcome, ran.counts)

pub returns-in-Maps-Convex-default-clause-outcome : goal.returns-in-Maps-Convex-default-clause-outcome
returns-in-Maps-Convex-default-clause-outcome g c =
    let arm = c.in-Maps-Convex-default in
    let ran = c.run_planar_part-in-Maps-Convex-default.ensures in
    PartOutcome-maps c.args.job arm.field-0 Convex arm.form c.args.part _ _ _ _ _ arm.is (rw arm.is at arm.field-0-is) (ran.outcome, ran.counts)

pub returns-in-Maps-Rect-default-clause-outcome : goal.returns-in-Maps-Rect-default-clause-outcome
returns-in-Maps-Rect-default-clause-outcome g c =
    let arm = c.in-Maps-Rect-default in
    let ran = c.run_planar_part-in-Maps-Rect-default.ensures in
    PartOutcome-maps c.args.job arm.field-0 Rect arm.form c.args.part _ _ _ _ _ arm.is (rw arm.is at arm.field-0-is) (ran.outcome, ran.counts)

pub returns-in-Graphs-clause-outcome : goal.returns-in-Graphs-clause-outcome
returns-in-Graphs-clause-outcome g c =
    PartOutcome-run c.args.job _ c.args.part _ _ _ _ _ c.in-Graphs.is (c.run_graph_part.ensures.outcome, c.run_graph_part.ensures.counts)

pub returns-in-Figures-clause-outcome : goal.returns-in-Figures-clause-outcome
returns-in-Figures-clause-outcome g c =
    PartOutcome-run c.args.job _ c.args.part _ _ _ _ _ c.in-Figures.is (c.run_figure_part.ensures.outcome, c.run_figure_part.ensures.counts)
