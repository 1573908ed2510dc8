-- A map more is drawn.
use Rattle.std.proofs.Common.{◌<◌, List, ℤ, length, slice_range, ap₂, ◌∙◌, arith}
use Rattle.std.proofs.lemmas.List.{length-set}
use Rattle.pigale_c.specs.ManyMaps.{DrawsEach, two_parts}
use Rattle.pigale_c.specs.Numbers.{outcome_of}
use Rattle.pigale_c.proofs.ManyLemmas.{along, more_answered, part_kept}
use Rattle.pigale_c.proofs.many_maps.draw_each.Goals as goal

pub draw_part-call-requires-clause-x : goal.draw_part-call-requires-clause-x
draw_part-call-requires-clause-x g c = omega (arith, c.loop-i.invariant.2, c.requires.x, c.lists_of.ensures.within)

pub draw_part-call-requires-clause-y : goal.draw_part-call-requires-clause-y
draw_part-call-requires-clause-y g c = omega (arith, c.loop-i.invariant.3, c.requires.y, c.lists_of.ensures.within)

pub loop-i-preserved : goal.loop-i-preserved
loop-i-preserved g c =
    let maps = c.args.maps.now in
    let i = c.loop-i.i in
    let h = c.loop-i.invariant in
    let own = c.deref.ensures.value ∙ c.in-Ok.ensures in
    let call = c.draw_part-call.ensures in
    let part = c.lists_of.result in
    let bounds = c.lists_of.ensures in
    let Draws = g.D.GridDrawer.draws in (
      more_answered (List ℤ × List ℤ) (DrawsEach Draws maps.map_ends.now maps.ends.now maps.neighbours.now) (two_parts maps.map_ends.now c.args.x.now c.args.y.now) (two_parts maps.map_ends.now c.loop-i.x c.loop-i.y) (two_parts maps.map_ends.now c.draw_part-call.new.x c.draw_part-call.new.y)
          c.args.statuses.now c.loop-i.statuses c.args.found.now c.loop-i.found i c.report.result c.report.new.found
          h.0 (omega (arith, c.requires.answers.statuses, c.loop-i-test.true)) h.1 (omega (arith, c.requires.answers.statuses, c.requires.answers.found))
          (λ k other l.
          let inside : k < length maps.map_ends.now = omega (arith, c.requires.answers.statuses, l) in
          ap₂ (λ (us vs : List ℤ). (us, vs))
          (part_kept maps.map_ends.now (length maps.ends.now) k i part.from part.to c.loop-i.x c.draw_part-call.new.x c.requires.given.maps other inside c.loop-i-test.true bounds.from bounds.to call.x)
          (part_kept maps.map_ends.now (length maps.ends.now) k i part.from part.to c.loop-i.y c.draw_part-call.new.y c.requires.given.maps other inside c.loop-i-test.true bounds.from bounds.to call.y))
          (record {
            outcome = outcome_of c.draw_part-call.result;
            right = along
                (λ ends entries from to. Draws ends entries (slice_range c.loop-i.x from to) (slice_range c.loop-i.y from to) (slice_range c.draw_part-call.new.x from to) (slice_range c.draw_part-call.new.y from to) (outcome_of c.draw_part-call.result))
                _ _ _ _ _ _ _ _ own c.own_entries.ensures bounds.from bounds.to call.draws;
            status_is = c.report.ensures.status;
            numbers_are = c.report.ensures.numbers;
          }),
      record { statuses = length-set c.loop-i.statuses i c.report.result ∙ h.1.statuses; found = length-set c.loop-i.found i c.report.new.found ∙ h.1.found },
      call.x.long ∙ h.2,
      call.y.long ∙ h.3,
    )
