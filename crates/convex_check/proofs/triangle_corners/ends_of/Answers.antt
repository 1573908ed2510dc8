use Rattle.std.proofs.Common.{below_more, arith}
use Rattle.plane_drawings.specs.PlaneSweepLines.{IsBefore}
use Rattle.convex_check.proofs.Points.{point_at, each_point, Contains-one_of}
use Rattle.convex_check.proofs.triangle_corners.ends_of.Goals as goal

pub loop-p-preserved : goal.loop-p-preserved
loop-p-preserved c =
    let points = c.args.points.now in
    let k = c.loop-p.p-index in
    let h = c.loop-p.invariant in
    let first = c.earlier-first.ensures in
    let last = c.later-last.ensures in
    record {
      on_first = Contains-one_of points k c.loop-p-test.true _ _ h.on_first first.one;
      on_last = Contains-one_of points k c.loop-p-test.true _ _ h.on_last last.one;
      first = below_more (λ i. ¬ IsBefore (point_at points i) c.earlier-first.result) k (λ i l. first.before_q (point_at points i) (h.first i l)) first.before_p;
      last = below_more (λ i. ¬ IsBefore c.later-last.result (point_at points i)) k (λ i l. last.after_q (point_at points i) (h.last i l)) last.after_p;
    }

pub returns-clause-first : goal.returns-clause-first
returns-clause-first c =
    let end = c.loop-p-test.false in each_point (λ p. ¬ IsBefore p c.loop-p.first) c.args.points.now (λ i l. c.loop-p.invariant.first i (omega arith))

pub returns-clause-last : goal.returns-clause-last
returns-clause-last c =
    let end = c.loop-p-test.false in each_point (λ p. ¬ IsBefore c.loop-p.last p) c.args.points.now (λ i l. c.loop-p.invariant.last i (omega arith))
