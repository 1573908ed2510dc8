use Rattle.std.proofs.Common.{length, rules, arith}
use Rattle.std.proofs.lemmas.List.{drop_all}
use Rattle.figure_text.specs.Text.{columns_line}
use Rattle.figure_text.proofs.backward_writing.write_columns.Goals as goal

pub returns-clause-written : goal.returns-clause-written
unfolding columns_line
returns-clause-written c =
    rw (c.write_text.ensures.written, c.write_integers-numbers.ensures.written, c.write_byte-newline.ensures.written, drop_all (length c.args.bytes.now) c.args.bytes.now (omega arith)) (search rules)
