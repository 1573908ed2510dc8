-- The front, and then the neighbours.
use Rattle.figure_text.proofs.TextLemmas.{line-written}
use Rattle.figure_text.proofs.vertex_print.write_line.Goals as goal

pub returns-clause-written : goal.returns-clause-written
returns-clause-written g c =
    line-written g.R.Numbered.pieces c.args.line.now.v (g.R.Numbered.numbers c.args.figure.now c.args.line.now.v) c.args.line.now.list.now _ _ _ _ c.write_front.ensures.some c.write_front.ensures.written c.write_vertices-front.ensures.written c.write_byte-newline.ensures.written
