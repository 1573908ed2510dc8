-- A drawing more is judged.
use Rattle.std.proofs.Common.{get_or, pos, slice_range, refl, ◌∙◌, arith}
use Rattle.std.proofs.lemmas.List.{length-set}
use Rattle.pigale_c.specs.Judged.{IsJudged}
use Rattle.pigale_c.specs.ManyAnswers.{JudgesEach, drawings_in, nothing_at}
use Rattle.pigale_c.specs.Numbers.{outcome_of}
use Rattle.pigale_c.proofs.ManyLemmas.{along, more_answered}
use Rattle.pigale_c.proofs.many_checks.judge_each.Goals as goal

pub loop-i-preserved : goal.loop-i-preserved
loop-i-preserved c =
    let maps = c.args.maps.now in
    let rows = c.args.drawings.now in
    let i = c.loop-i.i in
    let h = c.loop-i.invariant in
    let own = c.deref.ensures.value ∙ c.in-Ok.ensures in
    let bounds = c.lists_of-lists.ensures in (
      more_answered (Unit {0}) (JudgesEach maps.map_ends.now maps.ends.now maps.neighbours.now (drawings_in rows.x.now rows.y.now rows.width.now rows.height.now)) nothing_at nothing_at nothing_at
          c.args.statuses.now c.loop-i.statuses c.args.found.now c.loop-i.found i c.report.result c.report.new.found
          h.0 (omega (arith, c.requires.answers.statuses, c.loop-i-test.true)) h.1 (omega (arith, c.requires.answers.statuses, c.requires.answers.found))
          (λ k other l. refl)
          (record {
            outcome = outcome_of c.judged.result;
            right = along
                (λ ends entries from to.
                IsJudged ends entries (slice_range rows.x.now from to) (slice_range rows.y.now from to) (get_or rows.width.now i (pos 0)) (get_or rows.height.now i (pos 0)) (outcome_of c.judged.result))
                _ _ _ _ _ _ _ _ own c.own_entries.ensures bounds.from bounds.to (rw (c.corner.ensures.x, c.corner.ensures.y) at c.judged.ensures);
            status_is = c.report.ensures.status;
            numbers_are = c.report.ensures.numbers;
          }),
      record { statuses = length-set c.loop-i.statuses i c.report.result ∙ h.1.statuses; found = length-set c.loop-i.found i c.report.new.found ∙ h.1.found },
    )
