-- Digits before a colon are a number before a colon.
use Rattle.std.proofs.Common.{◌≡◌, ◌-◌, true, take, drop, sym, ap, ◌∙◌, rules}
use Rattle.figure_text.specs.Words.{word_of}
use Rattle.decimals.specs.Numbers.{canonical}
use Rattle.figure_text.proofs.DecimalLemmas.{take-one_more}
use Rattle.figure_text.proofs.NumeralLemmas.{word_of-digits_closing}
use Rattle.figure_text.proofs.line_words.next_word.Goals as goal

pub returns-then-closes_at-clause-word : goal.returns-then-closes_at-clause-word
returns-then-closes_at-clause-word c =
    let line = c.args.line.now in
    let at = c.args.at in
    let digits = c.digits_from-digits.result in
    let found = c.digits_from-digits.ensures in
    let closes = c.closes_at.ensures (search rules) in
    let good : canonical (take (digits.end - at) (drop at line)) ≡ true = search rules in
    sym (ap word_of (take-one_more line at digits.end 58 found.order closes.0 closes.1) ∙ word_of-digits_closing (take (digits.end - at) (drop at line)) digits.value good found.value)
