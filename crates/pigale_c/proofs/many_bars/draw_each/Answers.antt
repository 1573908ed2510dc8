-- A map more is drawn.
use Rattle.std.proofs.Common.{slice_range, refl, ◌∙◌, arith}
use Rattle.std.proofs.lemmas.List.{length-set}
use Rattle.pg_plane.specs.declared.figures.BarFigure.{BarFigure}
use Rattle.pigale_c.specs.BarArrays.{AreDrawnBars, bars_in}
use Rattle.pigale_c.specs.ManyFigures.{DrawsBars, bars_of_map, column_of_map, column_end_of_map}
use Rattle.pigale_c.specs.Numbers.{outcome_of}
use Rattle.pigale_c.proofs.ManyLemmas.{along, more_answered}
use Rattle.pigale_c.proofs.ManyFigureLemmas.{bars_kept}
use Rattle.pigale_c.proofs.many_bars.draw_each.Goals as goal

pub draw_part-call-requires-clause-y : goal.draw_part-call-requires-clause-y
draw_part-call-requires-clause-y c = omega (arith, c.loop-i.invariant.2, c.requires.bars.y, c.lists_of.ensures.within)

pub draw_part-call-requires-clause-x1 : goal.draw_part-call-requires-clause-x1
draw_part-call-requires-clause-x1 c = omega (arith, c.loop-i.invariant.3, c.requires.bars.x1, c.lists_of.ensures.within)

pub draw_part-call-requires-clause-x2 : goal.draw_part-call-requires-clause-x2
draw_part-call-requires-clause-x2 c = omega (arith, c.loop-i.invariant.4, c.requires.bars.x2, c.lists_of.ensures.within)

pub draw_part-call-requires-clause-column : goal.draw_part-call-requires-clause-column
draw_part-call-requires-clause-column c = omega (arith, c.loop-i.invariant.5, c.requires.columns, c.columns_of.ensures.within)

pub loop-i-preserved : goal.loop-i-preserved
loop-i-preserved c =
    let maps = c.args.maps.now in
    let i = c.loop-i.i in
    let h = c.loop-i.invariant in
    let own = c.deref.ensures.value ∙ c.in-Ok.ensures in
    let call = c.draw_part-call.ensures in
    let new = c.draw_part-call.new in
    let bars = c.lists_of.ensures in
    let columns = c.columns_of.ensures in
    let old = bars_in c.loop-i.y c.loop-i.x1 c.loop-i.x2 c.loop-i.column in
    let next = bars_in new.y new.x1 new.x2 new.column in (
      more_answered BarFigure (DrawsBars maps.map_ends.now maps.ends.now maps.neighbours.now) (bars_of_map maps.map_ends.now maps.ends.now (bars_in c.args.y.now c.args.x1.now c.args.x2.now c.args.column.now)) (bars_of_map maps.map_ends.now maps.ends.now old) (bars_of_map maps.map_ends.now maps.ends.now next)
          c.args.statuses.now c.loop-i.statuses c.args.found.now c.loop-i.found i c.report.result c.report.new.found
          h.0 (omega (arith, c.requires.answers.statuses, c.loop-i-test.true)) h.1 (omega (arith, c.requires.answers.statuses, c.requires.answers.found))
          (λ k other l.
          bars_kept maps.map_ends.now maps.ends.now maps.neighbours.now k i _ _ _ _ old next c.requires.given other (omega (arith, c.requires.answers.statuses, l)) c.loop-i-test.true
          (record { from_is = bars.from; to_is = bars.to; start_is = columns.from; end_is = columns.to; y = call.y; x1 = call.x1; x2 = call.x2; column = call.column }))
          (record {
            outcome = outcome_of c.draw_part-call.result;
            right = along
                (λ ends entries from to.
                AreDrawnBars ends entries (bars_in (slice_range old.y from to) (slice_range old.x1 from to) (slice_range old.x2 from to) (slice_range old.column (column_of_map maps.map_ends.now maps.ends.now i) (column_end_of_map maps.map_ends.now maps.ends.now i)))
                (bars_in (slice_range next.y from to) (slice_range next.x1 from to) (slice_range next.x2 from to) (slice_range next.column (column_of_map maps.map_ends.now maps.ends.now i) (column_end_of_map maps.map_ends.now maps.ends.now i))) (outcome_of c.draw_part-call.result))
                _ _ _ _ _ _ _ _ own c.own_entries.ensures bars.from bars.to
                (along
                (λ ends entries start end.
                AreDrawnBars ends entries (bars_in (slice_range old.y c.lists_of.result.from c.lists_of.result.to) (slice_range old.x1 c.lists_of.result.from c.lists_of.result.to) (slice_range old.x2 c.lists_of.result.from c.lists_of.result.to) (slice_range old.column start end))
                (bars_in (slice_range next.y c.lists_of.result.from c.lists_of.result.to) (slice_range next.x1 c.lists_of.result.from c.lists_of.result.to) (slice_range next.x2 c.lists_of.result.from c.lists_of.result.to) (slice_range next.column start end)) (outcome_of c.draw_part-call.result))
                _ _ _ _ _ _ _ _ refl refl columns.from columns.to call.draws);
            status_is = c.report.ensures.status;
            numbers_are = c.report.ensures.numbers;
          }),
      record { statuses = length-set c.loop-i.statuses i c.report.result ∙ h.1.statuses; found = length-set c.loop-i.found i c.report.new.found ∙ h.1.found },
      call.y.long ∙ h.2,
      call.x1.long ∙ h.3,
      call.x2.long ∙ h.4,
      call.column.long ∙ h.5,
    )
