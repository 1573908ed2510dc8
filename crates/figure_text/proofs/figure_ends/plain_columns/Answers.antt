-- The first word, and the numbers behind it one by one.
use Rattle.std.proofs.Common.{◌≡◌, ◌+◌, ◌++◌, ◌∷◌, List, ℤ, map, sym, ap, ◌∙◌, arith, rules}
use Rattle.std.proofs.lemmas.Bool.{OnTrue_at}
use Rattle.figure_text.specs.declared.line_words.Word.{Word}
use Rattle.figure_text.specs.Words.{words_of, words_left}
use Rattle.figure_text.specs.Lines.{integer_of}
use Rattle.figure_text.specs.Figures.{columns_of}
use Rattle.figure_text.proofs.WordLemmas.{words-next}
use Rattle.figure_text.proofs.PlainLemmas.{columns-front, columns-line, columns-range}
use Rattle.figure_text.proofs.figure_ends.plain_columns.Goals as goal

pub returns : goal.returns
returns c =
    let line = c.args.line.now in
    let word = c.next_word-front.result.word in
    let end = c.next_word-front.result.end in
    let front = c.next_word-front.ensures in
    let left = words_left line (end + 1) in
    let words = words_of line in
    let is : words ≡ word ∷ left = columns-front line word left (words-next line 0 end (omega arith) front.order front.within front.before front.found ∙ ap (λ (w : Word). w ∷ left) (sym front.word)) in
    let (all, list) = OnTrue_at c.if-not-branch.false c.in_ok-push_coordinates.ensures in
    (columns-line words left word is (search rules) all, columns-range words left word is all, list ∙ ap (λ (zs : List ℤ). zs ++ map integer_of left) c.new-list.ensures ∙ ap columns_of (sym is))
