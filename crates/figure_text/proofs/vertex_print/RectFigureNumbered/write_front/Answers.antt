-- Word by word from the end.
use Rattle.std.proofs.Common.{◌+◌, drop, FitsSigned, w32, to_z-of_z, rules}
use Rattle.std.specs.Fmt.{decimal, signed_decimal}
use Rattle.figure_text.specs.Text.{integer_at}
use Rattle.figure_text.proofs.BackwardLemmas.{rect_words}
use Rattle.figure_text.proofs.vertex_print.RectFigureNumbered.write_front.Goals as goal

pub returns-clause-written : goal.returns-clause-written
returns-clause-written c =
    let fits_a : FitsSigned w32 c.integer-a.result = search rules in
    let fits_b : FitsSigned w32 c.integer-b.result = search rules in
    let fits_c : FitsSigned w32 c.integer-c.result = search rules in
    let fits_d : FitsSigned w32 c.integer-d.result = search rules in
    rw (c.write_number.ensures.written, c.write_letter-x.ensures.written, c.write_signed-left.ensures.written, c.write_signed-right.ensures.written, c.write_letter-y.ensures.written, c.write_signed-bottom.ensures.written, c.write_signed-top.ensures.written, c.write_byte-colon.ensures.written, to_z-of_z fits_a, c.integer-a.ensures, to_z-of_z fits_b, c.integer-b.ensures, to_z-of_z fits_c, c.integer-c.ensures, to_z-of_z fits_d, c.integer-d.ensures) (rect_words (decimal (c.args.line.now.v + 1)) (signed_decimal (integer_at c.args.self.now.x1 c.args.line.now.v)) (signed_decimal (integer_at c.args.self.now.x2 c.args.line.now.v)) (signed_decimal (integer_at c.args.self.now.y1 c.args.line.now.v)) (signed_decimal (integer_at c.args.self.now.y2 c.args.line.now.v)) (drop c.args.end c.args.bytes.now))
