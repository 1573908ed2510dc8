-- Digits that end at a space, or at the end.
use Rattle.std.proofs.Common.{◌≡◌, ◌+◌, ◌-◌, true, ◌∷◌, take, drop, ap, ◌∙◌, arith, rules}
use Rattle.figure_text.specs.declared.line_words.Word.{Word}
use Rattle.figure_text.specs.Words.{words_left}
use Rattle.decimals.specs.Numbers.{canonical}
use Rattle.figure_text.proofs.NumeralLemmas.{word_of-digits}
use Rattle.figure_text.proofs.WordLemmas.{words-next}
use Rattle.figure_text.proofs.line_words.plain_at.Goals as goal

pub returns-then-ends_at : goal.returns-then-ends_at
returns-then-ends_at c =
    let line = c.args.line.now in
    let at = c.args.at in
    let digits = c.digits_from-digits.result in
    let found = c.digits_from-digits.ensures in
    let ends = c.ends_at.ensures (search rules) in
    let good : canonical (take (digits.end - at) (drop at line)) ≡ true = search rules in
    record {
      words = words-next line at digits.end (omega (arith, found.order, found.within)) found.order found.within found.before ends ∙ ap (λ (w : Word). w ∷ words_left line (digits.end + 1)) (word_of-digits (take (digits.end - at) (drop at line)) digits.value good found.value);
      order = found.order;
      within = found.within;
    }
