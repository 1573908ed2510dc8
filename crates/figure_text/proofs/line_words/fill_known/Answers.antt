-- One word more, or one that is neither a number nor a word of figures.
use Rattle.std.proofs.Common.{◌≡◌, ◌+◌, [], ◌∷◌, ◌++◌, List, length, nat_lt, true, append-nil, sym, ap, ◌∙◌, subst, arith, rules}
use Rattle.std.proofs.lemmas.Bool.Decides.{nat_tests}
use Rattle.figure_text.specs.declared.line_words.Word.{Word}
use Rattle.figure_text.specs.Words.{words_of, words_left}
use Rattle.figure_text.proofs.WordLemmas.{words-more, words-other}
use Rattle.figure_text.proofs.line_words.fill_known.Goals as goal

pub loop-at-preserved : goal.loop-at-preserved
loop-at-preserved c =
    let line = c.args.line.now in
    let end = c.next_word-next.result.end in
    let found = c.loop-at.found.items in
    let grown : c.push.new.self.items ≡ found ++ c.next_word-next.result.word ∷ [] = search rules in
    subst (λ (x : List Word). x ++ words_left line (end + 1) ≡ words_of line)
    (sym (grown ∙ ap (λ (w : Word). found ++ w ∷ []) c.next_word-next.ensures.word))
    (words-more line found c.loop-at.at end c.loop-at-test.true c.next_word-next.ensures.order c.next_word-next.ensures.within c.next_word-next.ensures.before c.next_word-next.ensures.found c.loop-at.invariant)

pub returns-in-Other-clause-other : goal.returns-in-Other-clause-other
returns-in-Other-clause-other c =
    words-other c.args.line.now c.loop-at.found.items c.loop-at.at c.next_word-next.result.end c.loop-at-test.true c.next_word-next.ensures.order c.next_word-next.ensures.within c.next_word-next.ensures.before c.next_word-next.ensures.found c.loop-at.invariant
    (sym c.next_word-next.ensures.word ∙ c.in-Other.is)

pub returns-clause-known : goal.returns-clause-known
returns-clause-known c =
    let none : nat_lt (length c.args.line.now) c.loop-at.at ≡ true = grind (arith, nat_tests, c.loop-at-test.false) in
    sym (append-nil c.loop-at.found.items) ∙ (rw none at c.loop-at.invariant)
