-- The number and the space before it are the end of the seven bytes.
use Rattle.std.proofs.Common.{◌≡◌, ◌-◌, ◌∷◌, drop, decimal, ◌∙◌, ap, arith, append-nil}
use Rattle.std.proofs.lemmas.Fmt.{length-decimal-le}
use Rattle.figure_text.proofs.number_texts.text_of.Goals as goal

pub write_digits-digits-requires : goal.write_digits-digits-requires
write_digits-digits-requires c = (length-decimal-le 7 c.args.number (omega arith) (omega arith) (omega arith), omega arith)

pub write_byte-start-requires : goal.write_byte-start-requires
write_byte-start-requires c =
    let few = length-decimal-le 4 c.args.number (omega arith) (omega arith) (omega arith) in
    (omega (arith, few), omega arith)

pub returns : goal.returns
returns c =
    let bytes = c.write_byte-start.new.bytes in
    let start = c.write_byte-start.result in
    let place : 7 - (7 - start) ≡ start = omega arith in
    record {
      seven = omega arith;
      within = omega arith;
      spaced = ap (λ k. drop k bytes) place ∙ c.write_byte-start.ensures.written ∙ ap (λ ds. 32 ∷ ds) (c.write_digits-digits.ensures.written ∙ append-nil (decimal c.args.number));
    }
