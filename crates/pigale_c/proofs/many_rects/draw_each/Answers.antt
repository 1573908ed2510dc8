-- A map more is drawn.
use Rattle.std.proofs.Common.{slice_range, ◌∙◌, arith}
use Rattle.std.proofs.lemmas.List.{length-set}
use Rattle.pg_plane.specs.declared.figures.RectFigure.{RectFigure}
use Rattle.pigale_c.specs.RectArrays.{AreDrawnRects, rects_in}
use Rattle.pigale_c.specs.ManyFigures.{DrawsRects, rects_of_map}
use Rattle.pigale_c.specs.Numbers.{outcome_of}
use Rattle.pigale_c.proofs.ManyLemmas.{along, more_answered}
use Rattle.pigale_c.proofs.ManyFigureLemmas.{rects_kept}
use Rattle.pigale_c.proofs.many_rects.draw_each.Goals as goal

pub draw_part-call-requires-clause-x1 : goal.draw_part-call-requires-clause-x1
draw_part-call-requires-clause-x1 c = omega (arith, c.loop-i.invariant.2, c.requires.rects.x1, c.lists_of.ensures.within)

pub draw_part-call-requires-clause-x2 : goal.draw_part-call-requires-clause-x2
draw_part-call-requires-clause-x2 c = omega (arith, c.loop-i.invariant.3, c.requires.rects.x2, c.lists_of.ensures.within)

pub draw_part-call-requires-clause-y1 : goal.draw_part-call-requires-clause-y1
draw_part-call-requires-clause-y1 c = omega (arith, c.loop-i.invariant.4, c.requires.rects.y1, c.lists_of.ensures.within)

pub draw_part-call-requires-clause-y2 : goal.draw_part-call-requires-clause-y2
draw_part-call-requires-clause-y2 c = omega (arith, c.loop-i.invariant.5, c.requires.rects.y2, c.lists_of.ensures.within)

pub loop-i-preserved : goal.loop-i-preserved
loop-i-preserved c =
    let maps = c.args.maps.now in
    let i = c.loop-i.i in
    let h = c.loop-i.invariant in
    let own = c.deref.ensures.value ∙ c.in-Ok.ensures in
    let call = c.draw_part-call.ensures in
    let new = c.draw_part-call.new in
    let bounds = c.lists_of.ensures in
    let old = rects_in c.loop-i.x1 c.loop-i.x2 c.loop-i.y1 c.loop-i.y2 in
    let next = rects_in new.x1 new.x2 new.y1 new.y2 in (
      more_answered RectFigure (DrawsRects maps.map_ends.now maps.ends.now maps.neighbours.now) (rects_of_map maps.map_ends.now (rects_in c.args.x1.now c.args.x2.now c.args.y1.now c.args.y2.now)) (rects_of_map maps.map_ends.now old) (rects_of_map maps.map_ends.now next)
          c.args.statuses.now c.loop-i.statuses c.args.found.now c.loop-i.found i c.report.result c.report.new.found
          h.0 (omega (arith, c.requires.answers.statuses, c.loop-i-test.true)) h.1 (omega (arith, c.requires.answers.statuses, c.requires.answers.found))
          (λ k other l.
          rects_kept maps.map_ends.now maps.ends.now maps.neighbours.now k i _ _ old next c.requires.given other (omega (arith, c.requires.answers.statuses, l)) c.loop-i-test.true
          (record { from_is = bounds.from; to_is = bounds.to; x1 = call.x1; x2 = call.x2; y1 = call.y1; y2 = call.y2 }))
          (record {
            outcome = outcome_of c.draw_part-call.result;
            right = along
                (λ ends entries from to.
                AreDrawnRects ends entries (rects_in (slice_range old.x1 from to) (slice_range old.x2 from to) (slice_range old.y1 from to) (slice_range old.y2 from to))
                (rects_in (slice_range next.x1 from to) (slice_range next.x2 from to) (slice_range next.y1 from to) (slice_range next.y2 from to)) (outcome_of c.draw_part-call.result))
                _ _ _ _ _ _ _ _ own c.own_entries.ensures bounds.from bounds.to call.draws;
            status_is = c.report.ensures.status;
            numbers_are = c.report.ensures.numbers;
          }),
      record { statuses = length-set c.loop-i.statuses i c.report.result ∙ h.1.statuses; found = length-set c.loop-i.found i c.report.new.found ∙ h.1.found },
      call.x1.long ∙ h.2,
      call.x2.long ∙ h.3,
      call.y1.long ∙ h.4,
      call.y2.long ∙ h.5,
    )
