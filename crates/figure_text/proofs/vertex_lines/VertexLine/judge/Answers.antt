-- A line with a word that is neither a number nor a word of figures has no such shape.
use Rattle.std.proofs.lemmas.Bool.{OnFalse_at}
use Rattle.figure_text.specs.Words.{words_of}
use Rattle.figure_text.proofs.OtherLemmas.{other-row, bad-good}
use Rattle.figure_text.proofs.vertex_lines.VertexLine.judge.Goals as goal

pub returns-in-Ok-false-fill_known : goal.returns-in-Ok-false-fill_known
returns-in-Ok-false-fill_known c = (other-row (words_of c.args.self.now.line.now) (OnFalse_at c.in-Ok-false-fill_known.field-0-test c.in-Ok-false-fill_known.ensures.other) c.args.self.now.kind c.args.self.now.place, bad-good)
