-- One byte more.
use Rattle.std.proofs.Common.{get_or, refl, ◌∙◌, sym}
use Rattle.decimals.proofs.DigitLemmas.{cut_from-more, cut_from-none, one_more-le}
use Rattle.decimals.proofs.decimal_number.Goals as goal

pub loop-byte-preserved : goal.loop-byte-preserved
loop-byte-preserved c =
    let byte = get_or c.args.text.now c.loop-byte.byte-index 0 in
    let is = sym c.with_digit.ensures ∙ c.in-Some.is in
    record {
      near = one_more-le c.args.most c.loop-byte.value byte c.in-Some.more is;
      same = cut_from-more c.args.most c.args.text.now c.loop-byte.value c.loop-byte.byte-index byte c.in-Some.more c.loop-byte-test.true refl is ∙ c.loop-byte.invariant.same;
    }

pub returns-in-None-clause-number : goal.returns-in-None-clause-number
returns-in-None-clause-number c =
    let byte = get_or c.args.text.now c.loop-byte.byte-index 0 in
    sym (cut_from-none c.args.most c.args.text.now c.loop-byte.value c.loop-byte.byte-index byte c.loop-byte-test.true refl (sym c.with_digit.ensures ∙ c.in-None.is)) ∙ c.loop-byte.invariant.same
