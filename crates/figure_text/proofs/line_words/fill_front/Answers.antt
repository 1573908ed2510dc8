-- One word more.
use Rattle.std.proofs.Common.{◌≡◌, ◌+◌, List, [], ◌∷◌, ◌++◌, length, length-append, sym, ap, ◌∙◌, subst, arith, rules}
use Rattle.figure_text.specs.declared.line_words.Word.{Word}
use Rattle.figure_text.specs.Words.{words_of, words_left}
use Rattle.figure_text.proofs.WordLemmas.{words-more}
use Rattle.figure_text.proofs.line_words.fill_front.Goals as goal

pub loop-at-preserved : goal.loop-at-preserved
loop-at-preserved c =
    let line = c.args.line.now in
    let end = c.next_word-next.result.end in
    let found = c.loop-at.found.items in
    let grown : c.push.new.self.items ≡ found ++ c.next_word-next.result.word ∷ [] = search rules in
    let long : length c.push.new.self.items ≡ length found + 1 = ap length grown ∙ length-append found (c.next_word-next.result.word ∷ []) in
    record {
      words = subst (λ (x : List Word). x ++ words_left line (end + 1) ≡ words_of line)
          (sym (grown ∙ ap (λ (w : Word). found ++ w ∷ []) c.next_word-next.ensures.word))
          (words-more line found c.loop-at.at end c.loop-at-test.true c.next_word-next.ensures.order c.next_word-next.ensures.within c.next_word-next.ensures.before c.next_word-next.ensures.found c.loop-at.invariant.words);
      few = omega (arith, long, c.loop-at.invariant.few, c.next_word-next.ensures.order);
    }
