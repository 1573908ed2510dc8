-- A map more is counted.
use Rattle.std.proofs.Common.{get_or, refl, sym, subst, ◌∙◌, arith}
use Rattle.std.proofs.lemmas.List.{length-set, get_or-set_same, get_or-set_other}
use Rattle.std.proofs.Math.ListN.{set}
use Rattle.pigale_c.specs.Counted.{IsCounted}
use Rattle.pigale_c.specs.ManyAnswers.{CountsEach, counts_at, no_counts}
use Rattle.pigale_c.specs.Numbers.{outcome_of}
use Rattle.pigale_c.specs.declared.counts.Counts.{Counts}
use Rattle.pigale_c.proofs.ManyLemmas.{along, more_answered}
use Rattle.pigale_c.proofs.many_counts.count_each.Goals as goal

pub loop-i-preserved : goal.loop-i-preserved
loop-i-preserved c =
    let maps = c.args.maps.now in
    let i = c.loop-i.i in
    let h = c.loop-i.invariant in
    let own = c.deref.ensures.value ∙ c.in-Ok.ensures in
    let one = c.put_counts-call.new.counts in
    let next = set c.loop-i.counts i one in
    let here = get_or-set_same c.loop-i.counts i one no_counts (omega (arith, h.2, c.requires.counts_long, c.loop-i-test.true)) in (
      more_answered Counts (CountsEach maps.map_ends.now maps.ends.now maps.neighbours.now) (counts_at c.args.counts.now) (counts_at c.loop-i.counts) (counts_at next)
          c.args.statuses.now c.loop-i.statuses c.args.found.now c.loop-i.found i c.report.result c.report.new.found
          h.0 (omega (arith, c.requires.answers.statuses, c.loop-i-test.true)) h.1 (omega (arith, c.requires.answers.statuses, c.requires.answers.found))
          (λ k other l. get_or-set_other c.loop-i.counts i k one no_counts other)
          (record {
            outcome = outcome_of c.put_counts-call.result;
            right = along (λ ends entries _ _. IsCounted ends entries (get_or c.loop-i.counts i no_counts) (get_or next i no_counts) (outcome_of c.put_counts-call.result))
                _ _ _ _ 0 0 0 0 own c.own_entries.ensures refl refl
                (subst (λ (new : Counts). IsCounted c.deref.result.now c.own_entries.result.now (get_or c.loop-i.counts i no_counts) new (outcome_of c.put_counts-call.result)) (sym here) c.put_counts-call.ensures);
            status_is = c.report.ensures.status;
            numbers_are = c.report.ensures.numbers;
          }),
      record { statuses = length-set c.loop-i.statuses i c.report.result ∙ h.1.statuses; found = length-set c.loop-i.found i c.report.new.found ∙ h.1.found },
      length-set c.loop-i.counts i one ∙ h.2,
    )
