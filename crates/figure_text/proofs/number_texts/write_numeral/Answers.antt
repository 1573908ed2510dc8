-- The last bytes of the seven stand before the end.
use Rattle.std.proofs.Common.{◌≡◌, ◌+◌, ◌-◌, ◌++◌, length, drop, ap, refl, ◌∙◌, arith}
use Rattle.std.proofs.lemmas.List.{length-drop}
use Rattle.figure_text.proofs.NumeralTexts.{end_of_seven}
use Rattle.figure_text.proofs.number_texts.write_numeral.Goals as goal

pub returns-clause-start : goal.returns-clause-start
returns-clause-start c number is =
    let count = length-drop (7 - c.args.numeral.length) c.args.numeral.bytes in
    let spaced = ap length is.spaced in
    omega (arith, c.from.ensures, count, spaced, is.seven, is.within, c.requires.room)

pub returns-clause-written : goal.returns-clause-written
returns-clause-written c number is =
    let row = c.write_byte.new.bytes in
    let count = c.args.numeral.length in
    let before = drop c.args.end c.args.bytes.now in
    let place : c.args.end - c.from.result ≡ c.write_byte.result + 8 - count = omega (arith, c.from.ensures, c.write_byte.ensures.start, c.write_byte-first.ensures.start, c.write_byte-second.ensures.start, c.write_byte-third.ensures.start, c.write_byte-fourth.ensures.start, c.write_byte-fifth.ensures.start, c.write_byte-sixth.ensures.start, c.write_byte-seventh.ensures.start) in
    ap (λ k. drop k row) place
    ∙ end_of_seven row c.args.numeral.bytes before c.write_byte.result count count is.seven is.within (rw (c.write_byte.ensures.written, c.write_byte-first.ensures.written, c.write_byte-second.ensures.written, c.write_byte-third.ensures.written, c.write_byte-fourth.ensures.written, c.write_byte-fifth.ensures.written, c.write_byte-sixth.ensures.written, c.write_byte-seventh.ensures.written) refl)
    ∙ ap (λ ds. ds ++ before) is.spaced
