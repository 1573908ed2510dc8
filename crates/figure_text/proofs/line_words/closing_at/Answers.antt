-- Digits before a colon that ends its word.
use Rattle.std.proofs.Common.{◌≡◌, ◌≤◌, ℕ, ◌+◌, ◌-◌, true, false, ◌∷◌, take, drop, get_or, sym, ap, ◌∙◌, arith, rules, below_more}
use Rattle.figure_text.specs.declared.line_words.Word.{Word}
use Rattle.figure_text.specs.declared.line_words.Word.TheVariants.{Closing}
use Rattle.figure_text.specs.Words.{word_of, words_left}
use Rattle.decimals.specs.Numbers.{canonical}
use Rattle.figure_text.proofs.DecimalLemmas.{take-one_more}
use Rattle.figure_text.proofs.NumeralLemmas.{word_of-digits_closing}
use Rattle.figure_text.proofs.WordLemmas.{words-next}
use Rattle.figure_text.proofs.line_words.closing_at.Goals as goal

pub returns-then-closes_at : goal.returns-then-closes_at
returns-then-closes_at c =
    let line = c.args.line.now in
    let at = c.args.at in
    let digits = c.first_digits-digits.result in
    let found = c.first_digits-digits.ensures in
    let closes = c.closes_at.ensures (search rules) in
    let inside = closes.0 in
    let good : canonical (take (digits.end - at) (drop at line)) ≡ true = search rules in
    let word : word_of (take (digits.end + 1 - at) (drop at line)) ≡ Closing (record { negative = false; size = digits.value }) = ap word_of (take-one_more line at digits.end 58 found.order closes.0 closes.1) ∙ word_of-digits_closing (take (digits.end - at) (drop at line)) digits.value good found.value in
    record {
      words = words-next line at (digits.end + 1) (omega (arith, found.order, found.within)) (omega (arith, found.order)) (omega (arith, inside))
          (λ k low high e. below_more (λ (i : ℕ). at ≤ i → get_or line i 0 ≡ 32 → ⊥) digits.end (λ i h o is. found.before i o h is) (λ o is. (let q : 58 ≡ 32 = sym closes.1 ∙ is in omega arith)) k high low e)
          closes.2
          ∙ ap (λ (w : Word). w ∷ words_left line (digits.end + 1 + 1)) word;
      order = omega (arith, found.order);
      within = omega (arith, inside);
    }
