-- Word by word from the end.
use Rattle.std.proofs.Common.{◌+◌, drop, FitsSigned, w32, to_z-of_z, rules}
use Rattle.std.specs.Fmt.{decimal, signed_decimal}
use Rattle.figure_text.specs.Text.{integer_at}
use Rattle.figure_text.proofs.BackwardLemmas.{bar_words}
use Rattle.figure_text.proofs.vertex_print.BarFigureNumbered.write_front.Goals as goal

pub returns-clause-written : goal.returns-clause-written
returns-clause-written c =
    let fits_y : FitsSigned w32 c.integer-y.result = search rules in
    let fits_a : FitsSigned w32 c.integer-a.result = search rules in
    let fits_b : FitsSigned w32 c.integer-b.result = search rules in
    rw (c.write_number.ensures.written, c.write_letter-word.ensures.written, c.write_signed-height.ensures.written, c.write_letter-x.ensures.written, c.write_signed-first.ensures.written, c.write_signed-second.ensures.written, c.write_byte-colon.ensures.written, to_z-of_z fits_y, c.integer-y.ensures, to_z-of_z fits_a, c.integer-a.ensures, to_z-of_z fits_b, c.integer-b.ensures) (bar_words (decimal (c.args.line.now.v + 1)) (signed_decimal (integer_at c.args.self.now.y c.args.line.now.v)) (signed_decimal (integer_at c.args.self.now.x1 c.args.line.now.v)) (signed_decimal (integer_at c.args.self.now.x2 c.args.line.now.v)) (drop c.args.end c.args.bytes.now))
